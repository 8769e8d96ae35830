-- The cleared keys go: solving, filling and subtracting one after the other end as the definition does. Assumes nothing.
use mathlib.Core.Path.{◌≡◌, refl, sym}
use Rattle.std.specs.Prelude.{Ok, Err}
use Rattle.matrix.specs.Views.{flip, columns}
use Rattle.matrix.specs.Products.{product}
use Rattle.matrix.specs.declared.Update.TheVariants.{Subtract}
use Rattle.cholesky.specs.Factor.{Left, whole, stuck, factor}
use Rattle.cholesky.specs.declared.Fault.{Fault}
use Rattle.workspace.specs.Blocks.{solved_columns}
use Rattle.workspace.specs.Sums.{Sums, pick, change}
use Rattle.workspace.specs.declared.Frame.{Frame}
use Rattle.workspace.specs.declared.Part.TheVariants.{S, H, G, Xi, W}
use Rattle.slots.specs.declared.Branch.{Branch}
use Rattle.gaussian.specs.Elimination.{refused, done, filled_w, lost, ended, factorised}
use Rattle.gaussian.specs.Answers.{ended_as, finished_as}
use Rattle.cholesky.specs.Answers.{factored_as, list_of}

module _ (branch : Branch) (f : Frame) where
  pub lose-is : (σ σ₁ σ₂ σ₃ σ₄ σ₅ : Sums) → σ₁ ≡ change H (λ c. solved_columns σ.s f.cleared c 1) σ → σ₂
      ≡ change G (λ c. solved_columns σ₁.s f.cleared c f.rows) σ₁
      → σ₃ ≡ change W (λ c. filled_w branch f.rows c) σ₂
      → σ₄ ≡ change Xi (λ c. product Subtract (columns f.rows) f.rows σ₃.g (flip (columns f.cleared)) (pick H σ₃) (columns f.cleared)
      f.cleared c 1) σ₃
      → σ₅ ≡ change W (λ c. product Subtract (columns f.rows) f.rows σ₄.g (flip (columns f.cleared)) (pick G σ₄) (columns f.cleared)
      f.cleared c f.rows) σ₄
      → σ₅ ≡ lost branch f σ
  unfolding lost change
  lose-is σ σ₁ σ₂ σ₃ σ₄ σ₅ e₁ e₂ e₃ e₄ e₅ = rw (e₅, e₄, e₃, e₂, e₁)

  ended-done : (σ : Sums) (l : Left) → factored_as l ≡ Ok tt → ended branch f σ l ≡ done (lost branch f (change S (λ c. list_of l) σ))
  unfolding ended
  ended-done σ (whole l) e = refl
  ended-done σ (stuck l) e = cc

  ended-stopped : (σ : Sums) (l : Left) (why : Fault) → factored_as l ≡ Err why
      → (Err why ≡ finished_as (ended branch f σ l)) × (ended branch f σ l ≡ refused)
  unfolding ended finished_as
  ended-stopped σ (whole l) why e = absurd cc
  ended-stopped σ (stuck l) why e = (sym e, refl)

  pub finish-done : (σ σ₁ σ₂ : Sums) → factored_as (factor (columns f.cleared) f.cleared σ.s f.cleared) ≡ Ok tt
      → σ₁ ≡ change S (λ c. list_of (factor (columns f.cleared) f.cleared c f.cleared)) σ → σ₂ ≡ lost branch f σ₁
      → (Ok tt ≡ finished_as (factorised branch f σ)) × (factorised branch f σ ≡ ended_as (Ok tt) σ₂)
  unfolding factorised finished_as ended_as change
  finish-done σ σ₁ σ₂ e e₁ e₂ =
      let g : ended branch f σ (factor (columns f.cleared) f.cleared σ.s f.cleared) ≡ done σ₂ =
      rw (e₂, e₁) (ended-done σ (factor (columns f.cleared) f.cleared σ.s f.cleared) e) in
      (rw g refl, g)

  pub finish-stopped : (σ σ₁ : Sums) (why : Fault) → factored_as (factor (columns f.cleared) f.cleared σ.s f.cleared) ≡ Err why
      → (Err why ≡ finished_as (factorised branch f σ)) × (factorised branch f σ ≡ ended_as (Err why) σ₁)
  unfolding factorised ended_as
  finish-stopped σ σ₁ why e = ended-stopped σ (factor (columns f.cleared) f.cleared σ.s f.cleared) why e
