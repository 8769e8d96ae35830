-- The search through all keys of a graph: what each turn asks for, and what the answer means for a plan. Assumes nothing.
use mathlib.Core.Path.{◌≡◌, refl, sym, ap, ◌∙◌, subst}
use mathlib.Core.List.{List, [], ◌∷◌, map}
use Prim.Native.Nat.{ℕ, ◌+◌, ◌*◌, ◌≤◌, ◌<◌}
use native.Mathlib.Omega.{arith}
use lib.Ieee.{Float}
use lib.ListN.{length, get_or, take, length-map}
use lib.Seq.{length-take-le, get_or-take}
use Rattle.factor.specs.Limits.{max_size, max_total}
use Rattle.factor.specs.Factor.{lay}
use Rattle.graph.specs.Record.{size_at}
use Rattle.graph.specs.declared.Graph.{Graph}
use Rattle.graph.proofs.Validity.{size-most, valid-size}
use Rattle.schedule.specs.Gather.{Gathered}
use Rattle.plan.specs.Gather.{Held, gathered_of}
use Rattle.plan.specs.Plan.{no_gathered}
use Rattle.plan.specs.declared.gather.Gathered as arrays
use Rattle.messages.specs.Values.{FirstRefusal, none}
use Rattle.messages.specs.declared.Undone.{Undone}
use Rattle.std.proofs.Common.{Err}
use Rattle.messages.proofs.Members.{at_map}
use Rattle.marginals.specs.Marginals.{marginal_numbers, Found, missing_from, marginals_in}
use Rattle.graph.specs.Moments.{start_of}
use Rattle.marginals.specs.Asked.{found_at, found_from, AskedAt, Findable, Finds, FindsPlanned}
use Rattle.marginals.proofs.KeyByKey.{Walked, walk_on, walk_halted, walk-done}
use Rattle.marginals.proofs.Rooms.{key-room, numbers-most, all-numbers}
use Rattle.marginals.proofs.Gathering.{found-planned}

-- what the first n keys gather
abbrev pub entries : List arrays.Gathered → ℕ → List Gathered
entries at n = map gathered_of (take n at)

module _ (g : Graph) (at : List arrays.Gathered) (factors messages : List Float) (work₀ : ℕ) (keys heads : List ℕ) (results₀ : List Float)
    (f : Findable g at factors messages work₀ keys heads (length results₀)) where
  abbrev At : List Float → ℕ → ℕ → Type 0
  At results to k = Walked g.sizes factors messages keys heads (entries at g.variables) results₀ results to k

  many : length (entries at g.variables) ≡ g.variables
  many = length-map (take g.variables at) gathered_of ∙ length-take-le g.variables at f.long

  planned_finds : (numbers : ℕ) (r : FirstRefusal) (results : List Float) → numbers ≡ marginal_numbers g
      → Finds (found_from g.sizes factors messages keys heads 0 (entries at g.variables)) numbers r results₀ results
      → FindsPlanned g at factors messages keys heads r results₀ results
  planned_finds numbers r results e h p run = subst (λ (all : List Found). Finds all (marginal_numbers g) r results₀ results)
      (found-planned g p at factors messages keys heads run) (rw e at h)

  pub search_done : (results : List Float) (to k : ℕ) → At results to k → g.variables ≤ k
      → FindsPlanned g at factors messages keys heads none results₀ results
  search_done results to k w h =
      planned_finds (start_of g.sizes (length (entries at g.variables))) none results (ap (start_of g.sizes) many ∙ all-numbers g f.sound)
      (walk-done g.sizes factors messages keys heads (entries at g.variables) results₀ results to k w (omega (arith, many)))

  module _ (results : List Float) (to k : ℕ) (w : At results to k) (l : k < g.variables) where
    abbrev q : arrays.Gathered
    q = get_or at k no_gathered

    abbrev own : Found
    own = found_at g.sizes factors messages keys heads k (gathered_of q)

    entry : get_or (entries at g.variables) k (gathered_of q) ≡ gathered_of q
    entry =
        at_map gathered_of (take g.variables at) k no_gathered (gathered_of q) (omega (arith, length-take-le g.variables at f.long))
        ∙ ap gathered_of (get_or-take g.variables at k no_gathered l)

    pub key-small : size_at g k ≤ max_size
    key-small = size-most _ (valid-size g f.sound k l)

    pub turn_room : to + (size_at g k + size_at g k * size_at g k) ≤ length results
    turn_room = omega (arith, key-room g f.sound k l, f.room, w.place, w.long)

    pub turn_low : to + (size_at g k + size_at g k * size_at g k) ≤ 7 * max_total
    turn_low = omega (arith, key-room g f.sound k l, numbers-most g f.sound, w.place)

    pub turn_asked : (work : ℕ) → work ≡ work₀ → Held q × AskedAt g.sizes factors messages work keys heads k (gathered_of q) × (size_at g k ≤ max_size)
    turn_asked work e = rw e (f.held k l, f.asked k l, key-small)

    pub search_on : (results' : List Float) (s : ℕ) → none ≡ missing_from k (own ∷ []) → results' ≡ lay results to (marginals_in (own ∷ []))
        → s ≡ size_at g k → At results' (to + (s + s * s)) (k + 1)
    search_on results' s e el es =
        walk_on g.sizes factors messages keys heads (entries at g.variables) results₀ results to k (gathered_of q) w (omega (arith, many)) entry
        results' (to + (s + s * s)) (sym e) el (rw es refl) turn_room

    pub search_halted : (u : Undone) (results' : List Float) → Err u ≡ missing_from k (own ∷ [])
        → FindsPlanned g at factors messages keys heads (Err u) results₀ results'
    search_halted u results' e =
        planned_finds (marginal_numbers g) (Err u) results' refl
        (walk_halted g.sizes factors messages keys heads (entries at g.variables) results₀ results to k (gathered_of q) w (omega (arith, many))
        entry (marginal_numbers g) u results' e)
