-- What four definitions of the schedule mean, in a few laws each. The other proofs of this crate cite these laws, and look at the text of
-- the definitions nowhere else.
-- Assumes nothing.
use mathlib.Core.Path.{◌≡◌, refl}
use mathlib.Core.Logic.{◌≢◌}
use mathlib.Core.Bool.{not, ◌&&◌}
use mathlib.Core.List.{List, [], ◌∷◌, Memᴰ}
use Prim.Native.Nat.{ℕ, ◌<◌}
use native.Mathlib.Omega.{arith}
use native.Mathlib.Decide.{dec_lt}
use lib.Dec.{T, eqb, ltb→lt, lt→ltb, nltb→le, eqb→eq, eqb_refl, not_T}
use lib.ListN.{length}
use Rattle.schedule.specs.Count.{count, In, mem}
use Rattle.schedule.specs.Pass.{touches, ClosedFactor}
use Rattle.schedule.specs.Gather.{popped, under, keys_last, uncovered}
use Rattle.schedule.proofs.Counts.{and_i, and_no_l, and_no_r, not-not, in_mem, any_some, any_of, any_none, keep_yes, keep_no, rising_yes}
use Rattle.schedule.proofs.Counts.{rising_no, rising_in}

-- ---- a list touches the cleared keys exactly if one of its keys is among them
pub touches-some : (cl keys : List ℕ) → T (touches cl keys) → (c : ℕ) × Memᴰ c keys × In c cl
unfolding touches
touches-some cl keys t = let (c, m, u) = any_some (λ j. mem j cl) keys t in (c, m, ltb→lt 0 (count c cl) u)

pub touches_of : (cl keys : List ℕ) (j : ℕ) → In j keys → In j cl → T (touches cl keys)
unfolding touches
touches_of cl keys j h c = any_of (λ i. mem i cl) (in_mem keys h) (lt→ltb 0 (count j cl) c)

pub touches_none : (cl keys : List ℕ) → T (not (touches cl keys)) → (j : ℕ) → In j keys → count j cl ≡ 0
unfolding touches
touches_none cl keys t j h = omega (arith, nltb→le 0 (count j cl) (any_none (λ i. mem i cl) keys (in_mem keys h) t))

-- ---- an original that lies under a gathered message is not uncovered; a live one that lies under none is, as often as it is live
pub covered-not : (lv N : List ℕ) (f : ℕ) → In f lv → count f (uncovered lv N) ≡ 0
unfolding uncovered
covered-not lv N f h = keep_no (λ i. not (mem i lv)) f N (not-not (mem f lv) (lt→ltb 0 (count f lv) h))

pub uncovered-all : (lv N : List ℕ) (f : ℕ) → count f lv ≡ 0 → count f (uncovered lv N) ≡ count f N
unfolding uncovered
uncovered-all lv N f z = keep_yes (λ i. not (mem i lv)) f N (not_T (mem f lv) (λ t. absurd (omega (arith, ltb→lt 0 (count f lv) t))))

pub uncovered_in : (lv N : List ℕ) (f : ℕ) → In f (uncovered lv N) → In f N × (count f lv ≡ 0)
uncovered_in lv N f h = go (dec_lt 0 (count f lv))
  where
    go : Dec (0 < count f lv) → In f N × (count f lv ≡ 0)
    go (yes l) = absurd (omega (arith, covered-not lv N f l))
    go (no l) = let z : count f lv ≡ 0 = omega arith in (omega (arith, uncovered-all lv N f z), z)

-- ---- the keys cleared last are the registered ones among the keys given, once each, but for the key itself
pub own_never : (n k : ℕ) (keys : List ℕ) → count k (keys_last n k keys) ≡ 0
unfolding keys_last
own_never n k keys = rising_no n (λ j. mem j keys && not (eqb j k)) k (and_no_r (mem k keys) (not (eqb k k)) (not-not (eqb k k) (eqb_refl k)))

pub last_once : (n k : ℕ) (keys : List ℕ) (j : ℕ) → j < n → In j keys → j ≢ k → count j (keys_last n k keys) ≡ 1
unfolding keys_last
last_once n k keys j l h ne = rising_yes n (λ i. mem i keys && not (eqb i k)) j l
    (and_i (mem j keys) (not (eqb j k)) (lt→ltb 0 (count j keys) h) (not_T (eqb j k) (λ t. ne (eqb→eq j k t))))

pub last_none : (n k : ℕ) (keys : List ℕ) (j : ℕ) → T (not (mem j keys)) → count j (keys_last n k keys) ≡ 0
unfolding keys_last
last_none n k keys j t = rising_no n (λ i. mem i keys && not (eqb i k)) j (and_no_l (mem j keys) (not (eqb j k)) t)

pub last_in : (n k : ℕ) (keys : List ℕ) (j : ℕ) → In j (keys_last n k keys) → (j < n) × (count j (keys_last n k keys) ≡ 1)
unfolding keys_last
last_in n k keys j h = let r = rising_in n (λ i. mem i keys && not (eqb i k)) j h in (r.1, r.2)

-- ---- under a message lies what the stack gives in as many turns as there are messages
pub under-popped : (messages : List ClosedFactor) (root : ℕ) → under messages root ≡ popped messages (length messages) (root ∷ [])
unfolding under
under-popped messages root = refl
