-- `measured::strips_lookup`: no more than 256 keys are read, so the number fits.
use Rattle.std.proofs.Common.{◌≡◌, ◌≤◌, ℕ, ◌+◌, ◌*◌, ◌-◌, List, length, take, min, refl, sym, arith, ap, ◌∙◌}
use Rattle.std.specs.Prelude.{Option, Some, None}
use Rattle.std.specs.Option.{unwrap_or}
use Rattle.factor.proofs.Lookups.{few-read, lent, place-within}
use Rattle.factor.specs.Factor.{lookup}
use Rattle.factor.specs.declared.lists.Looked.{Looked}
use Rattle.measured.specs.Measured.{lookup_number, most_rising, place_number}
use Rattle.measured.proofs.strips_lookup.Goals as goal

place-number : (p : Option ℕ) → unwrap_or p 255 ≡ place_number p
place-number (Some j) = refl
place-number None = refl

low : (keys : List ℕ) (key : ℕ) (p : Option ℕ) → (lookup (take most_rising keys) key).place ≡ p → place_number p ≤ 255
low keys key (Some j) e = omega (arith, (place-within keys key most_rising j e).0)
low keys key None e = omega arith

-- over plain values: the number told, whose parts are small
told : (keys : List ℕ) (key v : ℕ) (r : Looked) → r ≡ lookup (take most_rising keys) key → v ≡ unwrap_or r.place 255
    → (r.read ≤ 256) × (v ≤ 255) × (256 * r.read + v ≡ lookup_number keys key)
unfolding lookup_number
told keys key v r e ev =
    let n : v ≡ place_number r.place = ev ∙ place-number r.place in (
      rw e (few-read keys key most_rising),
      rw n (low keys key r.place (ap (λ (x : Looked). x.place) (sym e))),
      rw (n, e) refl,
    )

-- the keys lent are those that can rise
looked : (keys : List ℕ) (key used : ℕ) (r : Looked) → used ≡ min (length keys) most_rising → r ≡ lookup (take (used - 0) keys) key
    → r ≡ lookup (take most_rising keys) key
looked keys key used r eu er = lent keys key most_rising used r (omega arith) er

pub overflow_mul-result : goal.overflow_mul-result
overflow_mul-result c =
    omega (
      arith,
      (told c.args.keys.now c.args.key _ c.lookup-looked.result
          (looked c.args.keys.now c.args.key c.min.result c.lookup-looked.result c.min.ensures c.lookup-looked.ensures) refl).0,
    )

pub overflow_add-result : goal.overflow_add-result
overflow_add-result c =
    let all = told c.args.keys.now c.args.key c.unwrap_or.result c.lookup-looked.result
    (looked c.args.keys.now c.args.key c.min.result c.lookup-looked.result c.min.ensures c.lookup-looked.ensures) c.unwrap_or.ensures in
    omega (arith, all.0, all.1)

pub returns : goal.returns
returns c =
    (told c.args.keys.now c.args.key c.unwrap_or.result c.lookup-looked.result
    (looked c.args.keys.now c.args.key c.min.result c.lookup-looked.result c.min.ensures c.lookup-looked.ensures) c.unwrap_or.ensures).2
