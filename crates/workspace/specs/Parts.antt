-- Inner: where each matrix of an elimination stands in the work store.
use Rattle.std.specs.Prelude.{ℕ, ◌+◌, ◌*◌, ◌≤◌, ◌≡◌, List, Float}
use Rattle.matrix.specs.Views.{part}
use Rattle.workspace.specs.Sums.{Sums}
use Rattle.workspace.specs.declared.Part.{Part}
use Rattle.workspace.specs.declared.Part.TheVariants.{S, H, G, A, Xi, W}
use Rattle.workspace.specs.declared.Frame.{Frame}

-- where a matrix begins, and where it ends
abbrev pub part_from : Frame → Part → ℕ
part_from f S = 0
part_from f H = f.h
part_from f G = f.g
part_from f A = f.a
part_from f Xi = f.xi
part_from f W = f.w

abbrev pub part_to : Frame → Part → ℕ
part_to f S = f.h
part_to f H = f.g
part_to f G = f.a
part_to f A = f.xi
part_to f Xi = f.w
part_to f W = f.end

-- the matrices that a store holds
abbrev pub matrices_in : Frame → List Float → Sums
matrices_in f t =
    record {
      s = part t 0 f.h;
      h = part t f.h f.g;
      g = part t f.g f.a;
      a = part t f.a f.xi;
      xi = part t f.xi f.w;
      w = part t f.w f.end;
    }

-- the frame fits a store of that length
pub record FrameLaid (f : Frame) (len : ℕ) : Type 0 where
  pub of_s : f.h ≡ f.cleared * f.cleared
  pub of_h : f.g ≡ f.h + f.cleared
  pub of_g : f.a ≡ f.g + f.cleared * f.rows
  pub of_a : f.xi ≡ f.a + f.rows * f.kept
  pub of_xi : f.w ≡ f.xi + f.rows
  pub of_w : f.end ≡ f.w + f.rows * f.rows
  pub fits : f.end ≤ len
  pub few_cleared : f.cleared ≤ 32
  pub few_rows : f.rows ≤ 32
  pub few_kept : f.kept ≤ 32
