-- `tables::put_head` meets its contract: six stores in a row. Assumes nothing.
use Prim.Native.Nat.{ℕ, suc, ◌+◌, ◌*◌, ◌≤◌}
use mathlib.Core.Path.{◌≡◌, refl, ◌∙◌}
use mathlib.Core.Bool.{Bool, true, false, cond}
use mir.Val.{bool_byte}
use mathlib.Core.List.{List, [], ◌∷◌}
use native.Mathlib.Omega.{arith}
use lib.ListN.{length, set}
use lib.Seq.{sets-eq}
use Rattle.factor.specs.Factor.{lay}
use Rattle.slots.specs.Limits.{numbers_per_head}
use Rattle.tables.specs.Heads.{with_head}
use Rattle.tables.proofs.put_head.Goals as goal

-- six stores in a row
six-laid : (l : List ℕ) (p a b c d e f : ℕ) → p + 6 ≤ length l
    → set (set (set (set (set (set l p a) (p + 1) b) (p + 2) c) (p + 3) d) (p + 4) e) (p + 5) f ≡ lay l p (a ∷ b ∷ c ∷ d ∷ e ∷ f ∷ [])
six-laid l p a b c d e f h =
    let e1 : p + 1 ≡ suc p = omega arith in
    let e2 : p + 2 ≡ suc (suc p) = omega arith in
    let e3 : p + 3 ≡ suc (suc (suc p)) = omega arith in
    let e4 : p + 4 ≡ suc (suc (suc (suc p))) = omega arith in
    let e5 : p + 5 ≡ suc (suc (suc (suc (suc p)))) = omega arith in
    rw (e1, e2, e3, e4, e5) (sets-eq (a ∷ b ∷ c ∷ d ∷ e ∷ f ∷ []) l p h)

-- 1 for a prior
marked : (prior : Bool) → bool_byte prior ≡ cond prior 1 0
marked true = refl
marked false = refl

pub returns : goal.returns
unfolding with_head
returns c =
    let args = c.args in
    let mark : c.from.result ≡ cond args.prior 1 0 = c.from.ensures ∙ marked args.prior in
    rw mark (six-laid args.heads.now (numbers_per_head * args.number) _ args.at args.rows args.width args.first args.count (omega arith))
