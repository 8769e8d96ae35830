-- Two passes of a sound graph are what the gathering asks.
-- Assumes nothing.
use mathlib.Core.Path.{◌≡◌, sym, subst, subst₂, ◌∙◌}
use mathlib.Core.Bool.{not, ◌&&◌}
use mathlib.Core.List.{List, [], ◌∷◌, ◌++◌, reverse}
use Prim.Native.Nat.{ℕ, ◌-◌, ◌≤◌, ◌<◌}
use native.Mathlib.Decide.{ℕ_discrete, dec_lt}
use native.Mathlib.Omega.{arith}
use lib.Dec.{T, ltb→lt}
use lib.ListN.{length, take, length-append, get_or-append, get_or-eq_default}
use lib.Seq.{get_or-append_seam, length-take-le}
use Rattle.factor.specs.Limits.{max_variables, max_factors}
use Rattle.schedule.specs.Count.{count, In, mem, keep, joined, from, rising_where}
use Rattle.schedule.specs.Pass.{ClosedFactor, no_message, at, State, slot_keys, Walked, walk, touches, coupled, stays, append, sending, closing, step}
use Rattle.schedule.specs.Pass.{state_after, full_pass}
use Rattle.schedule.specs.Gather.{uncovered, gathering, gather_at, gather}
use Rattle.schedule.specs.Plan.{place_in}
use Rattle.schedule.proofs.Counts.{count-nil, count-reverse, rising_in}
use Rattle.schedule.proofs.Sums.{sum_perm, length-sum}
use Rattle.schedule.specs.Messages.{Older}
use Rattle.schedule.proofs.Runs.{running, from-lt}
use Rattle.schedule.proofs.Sides.{light}
use Rattle.schedule.proofs.Demand3.{at_each, from_once}
use Rattle.plan.specs.Pass.{messages_of, PassReady, Live}
use Rattle.plan.specs.Gather.{listed_at, Forest, Gatherable, Keyed}
use Rattle.plan.specs.declared.pass.Pass.{Pass}
use Rattle.plan.proofs.Sending.{messages-length}
use Rattle.plan.proofs.Stepping.{ready_later}

-- ---- the kept keys of a pass are below n
LowKept : ℕ → List ClosedFactor → Type 0
LowKept n ms = (i j : ℕ) → In j (at ms i).kept → j < n

low_snoc : (n : ℕ) (ms : List ClosedFactor) (m : ClosedFactor) → LowKept n ms → ((j : ℕ) → In j m.kept → j < n) → LowKept n (ms ++ (m ∷ []))
unfolding LowKept
low_snoc n ms m h k i j q = go (dec_lt i (length ms)) (ℕ_discrete i (length ms))
  where
    go : Dec (i < length ms) → Dec (i ≡ length ms) → j < n
    go (yes l) d = h i j (subst (λ (x : ClosedFactor). In j x.kept) (get_or-append ms (m ∷ []) no_message i l) q)
    go (no l) (yes e) = k j (subst (λ (x : ClosedFactor). In j x.kept) (get_or-append_seam ms m [] no_message)
        (subst (λ (y : ℕ). In j (at (ms ++ (m ∷ [])) y).kept) e q))
    go (no l) (no e) =
        absurd (omega (
          arith,
          count-nil j,
          subst (λ (x : ClosedFactor). In j x.kept)
              (get_or-eq_default (ms ++ (m ∷ [])) no_message (omega (arith, length-append ms (m ∷ [])))) q,
        ))

low_sent : (n : ℕ) (K : ℕ → List ℕ) (t : ℕ) (st : State) (ak v : List ℕ) → LowKept n st.messages → LowKept n (sending n K t st ak v).messages
unfolding sending append
low_sent n K t st ak [] h = h
low_sent n K t st ak (c ∷ cs) h =
    low_snoc n st.messages (record {
      step = t;
      content = W.taken;
      kept = rising_where n (λ j. mem j ak && mem j (joined (slot_keys K st.messages) W.taken));
      cleared = c ∷ cs;
    }) h (λ j q. (rising_in n (λ j. mem j ak && mem j (joined (slot_keys K st.messages) W.taken)) j q).1)
  where
    W : Walked
    W = walk (λ s. touches (c ∷ cs) (slot_keys K st.messages s)) (length st.active) st.active

low-after : (n : ℕ) (K : ℕ → List ℕ) (N P : List ℕ) → LowKept n (state_after n K N P).messages
unfolding state_after step closing LowKept
low-after n K N [] = λ i j q. absurd (omega (arith, count-nil j))
low-after n K N (k ∷ P) =
    let st = state_after n K N P in
    low_sent n K (length P) st (keep (stays k (coupled K st.messages (k ∷ st.active_keys) st.active)) (k ∷ st.active_keys))
    (rising_where n (λ j. mem j (k ∷ st.active_keys) && not (stays k (coupled K st.messages (k ∷ st.active_keys) st.active) j))) (low-after n K N P)

pub low_pass : (n : ℕ) (K : ℕ → List ℕ) (N order : List ℕ) (i j : ℕ) → In j (at (full_pass n K N order) i).kept → j < n
unfolding full_pass LowKept
low_pass n K N order = low-after n K N (reverse order)

-- ---- the messages of a pass are a forest
pub forest : (p : Pass) (n : ℕ) (K : ℕ → List ℕ) (N order : List ℕ) → messages_of p ≡ full_pass n K N order
    → ((j : ℕ) → count j order ≡ count j (from 0 n)) → Forest p
unfolding full_pass
forest p n K N order e each =
    let run = running n K N (reverse order) (λ j. omega (arith, count-reverse j order, each j, from_once n j))
    (λ j h. from-lt j n (omega (arith, count-reverse j order, each j))) in
    record {
      older = subst Older (sym e) run.older;
      small = λ j h. omega (
        arith,
        messages-length p,
        light (messages_of p) (subst Older (sym e) run.older)
            (subst (λ (ms : List ClosedFactor). (j : ℕ) → j < length ms → (x : ℕ)
            → count x (Rattle.schedule.specs.Messages.collected Rattle.schedule.proofs.Runs.one_h ms j) ≤ count x (from 0 (length ms))) (sym e) run.small)
            j (omega (arith, messages-length p)),
      );
    }

-- ---- two passes
module _ (fw bw : Pass) (live : List ℕ) (count' n : ℕ) (K : ℕ → List ℕ) (order : List ℕ)
    (ef : messages_of fw ≡ full_pass n K (take count' live) order) (eb : messages_of bw ≡ full_pass n K (take count' live) (reverse order))
    (long : length live ≡ max_factors) (lv : Live live count') (few : n ≤ max_variables)
    (rf : PassReady n fw) (rb : PassReady n bw)
    (distinct : (f : ℕ) → count f (take count' live) ≤ 1) (registered : (f j : ℕ) → In j (K f) → j < n)
    (each : (j : ℕ) → count j order ≡ count j (from 0 n)) where
  pub gatherable : (k : ℕ) → k < n → Gatherable fw bw live count' (place_in k order) (n - 1 - place_in k order)
  unfolding gather gather_at gathering uncovered
  gatherable k l = record {
    forward = ready_later n max_variables fw fw.active few rf;
    backward = ready_later n max_variables bw bw.active few rb;
    forest = forest fw n K (take count' live) order ef each;
    forest' = forest bw n K (take count' live) (reverse order) eb (λ j. count-reverse j order ∙ each j);
    originals = lv;
    room =
        omega (
          arith,
          lv.few,
          long,
          length-sum G,
          sum_perm (λ x. 1) G (take count' live) counts,
          length-sum (take count' live),
          length-take-le count' live (omega (arith, lv.few)),
        );
  }
    where
      G : List ℕ
      G = listed_at fw bw (take count' live) (place_in k order) (n - 1 - place_in k order)

      counts : (f : ℕ) → count f G ≡ count f (take count' live)
      counts f =
          subst₂ (λ (a b : List ClosedFactor). count f (gather_at n K (take count' live) a b (place_in k order) (n - 1 - place_in k order) k).leaves
          ≡ count f (take count' live)) (sym ef) (sym eb)
          ((at_each n K (take count' live) order distinct (λ f h j. registered f j) each k l).listed f)

  low-mem : (j : ℕ) (l : List ℕ) → T (mem j l) → In j l
  low-mem j l t = ltb→lt 0 (count j l) t

  pub keyed : Keyed n K fw bw
  keyed = record {
    few = few;
    originals = λ i j t. registered i j (low-mem j (K i) t);
    forward = λ i j t. low_pass n K (take count' live) order i j (subst (λ (ms : List ClosedFactor). In j (at ms i).kept) ef
        (low-mem j (at (messages_of fw) i).kept t));
    backward = λ i j t. low_pass n K (take count' live) (reverse order) i j
        (subst (λ (ms : List ClosedFactor). In j (at ms i).kept) eb (low-mem j (at (messages_of bw) i).kept t));
  }
