-- What lies under a message: by recursion on the messages that it contains, which are older; and the stack gives the same.
-- Assumes nothing.
use mathlib.Core.Path.{◌≡◌, refl, sym, ap, ap₂, ◌∙◌}
use mathlib.Core.List.{List, [], ◌∷◌, ◌++◌, reverse, reverse_aux, reverse_aux-eq, append_assoc, Memᴰ}
use Prim.Native.Nat.{ℕ, zero, suc, ◌+◌, ◌≤◌, ◌<◌}
use native.Mathlib.Omega.{arith}
use lib.ListN.{length, get_or-append}
use lib.Seq.{get_or-append_seam}
use Rattle.schedule.specs.Count.{count, In, sum_over, joined}
use Rattle.schedule.specs.Pass.{ClosedFactor, no_message, at}
use Rattle.schedule.specs.Gather.{messages_in, popped}
use Rattle.schedule.specs.Messages.{inner, Older, grow, collected, itself, heavy}
use Rattle.schedule.proofs.Counts.{count-append, count-joined, count-reverse, mem_in, sum_same}
use Rattle.schedule.proofs.Sums.{sum-reverse, sum_reverse_aux, joined_same, joined-append, length-joined}

rev_in : {c : ℕ} (l : List ℕ) → Memᴰ c (reverse l) → In c l
rev_in {c} l m = omega (arith, count-reverse c l, mem_in m)

agree : (h : ℕ → ClosedFactor → List ℕ) (ms ms' : List ClosedFactor) (top : ℕ) → ((i : ℕ) → i < top → at ms i ≡ at ms' i) → Older ms → (d d' j : ℕ)
    → j < d → j < d' → j < top → grow h ms d j ≡ grow h ms' d' j
unfolding grow
agree h ms ms' top same old zero d' j l l' t = absurd (omega arith)
agree h ms ms' top same old (suc d) zero j l l' t = absurd (omega arith)
agree h ms ms' top same old (suc d) (suc d') j l l' t =
    ap₂ (λ (m : ClosedFactor) (r : List ℕ). h j m ++ r) (same j t)
    (joined_same (grow h ms d) (grow h ms' d') (reverse (inner ms j))
    (λ c m. let o : c < j = old j c (rev_in (inner ms j) m) in agree h ms ms' top same old d d' c (omega arith) (omega arith) (omega arith))
    ∙ ap (λ (m : ClosedFactor). joined (grow h ms' d') (reverse (messages_in m.content))) (same j t))

pub all-eq : (h : ℕ → ClosedFactor → List ℕ) (ms : List ClosedFactor) → Older ms → (j : ℕ) → collected h ms j
    ≡ h j (at ms j) ++ joined (collected h ms) (reverse (inner ms j))
unfolding collected
all-eq h ms old j =
    ap (λ (r : List ℕ). h j (at ms j) ++ r)
    (joined_same (grow h ms j) (collected h ms) (reverse (inner ms j))
    (λ c m. let o : c < j = old j c (rev_in (inner ms j) m) in agree h ms ms j (λ i l. refl) old j (suc c) c (omega arith) (omega arith) (omega arith)))

pub all_old : (h : ℕ → ClosedFactor → List ℕ) (ms more : List ClosedFactor) → Older ms → (j : ℕ) → j < length ms → collected h (ms ++ more) j ≡ collected h ms j
unfolding collected
all_old h ms more old j l = sym (agree h ms (ms ++ more) (length ms) (λ i t. sym (get_or-append ms more no_message i t)) old (suc j) (suc j) j
    (omega arith) (omega arith) l)

-- the message that is appended: itself, and what lies under the messages that it contains
pub all_new : (h : ℕ → ClosedFactor → List ℕ) (ms : List ClosedFactor) (m : ClosedFactor) → Older ms → Older (ms ++ (m ∷ [])) → (x : ℕ)
    → count x (collected h (ms ++ (m ∷ [])) (length ms)) ≡ count x (h (length ms) m) + sum_over (λ c. count x (collected h ms c)) (messages_in m.content)
all_new h ms m old old' x =
    ap (count x) (all-eq h ms' old' M)
    ∙ count-append x (h M (at ms' M)) (joined (collected h ms') (reverse (inner ms' M)))
    ∙ ap₂ ◌+◌ (ap (λ (e : ClosedFactor). count x (h M e)) new)
    (count-joined x (collected h ms') (reverse (inner ms' M))
    ∙ sum-reverse (λ c. count x (collected h ms' c)) (inner ms' M)
    ∙ sum_same (λ c. count x (collected h ms' c)) (λ c. count x (collected h ms c)) (inner ms' M)
    (λ c k. ap (count x) (all_old h ms (m ∷ []) old c (old' M c (mem_in k))))
    ∙ ap (λ (e : ClosedFactor). sum_over (λ c. count x (collected h ms c)) (messages_in e.content)) new)
  where
    M : ℕ
    M = length ms

    ms' : List ClosedFactor
    ms' = ms ++ (m ∷ [])

    new : at ms' M ≡ m
    new = get_or-append_seam ms m [] no_message

-- ---- the stack
pub heavy-one : (ms : List ClosedFactor) (j : ℕ) → heavy ms (j ∷ []) ≡ length (collected (λ i m. i ∷ []) ms j)
unfolding heavy sum_over
heavy-one ms j = omega arith

pub heavy-step : (ms : List ClosedFactor) → Older ms → (j : ℕ) (stack : List ℕ) → heavy ms (j ∷ stack) ≡ suc (heavy ms (reverse_aux (inner ms j) stack))
unfolding heavy sum_over
heavy-step ms old j stack =
    omega (
      arith,
      ap length (all-eq itself ms old j),
      length-joined (collected itself ms) (reverse (inner ms j)),
      sum-reverse (λ c. length (collected itself ms c)) (inner ms j),
      sum_reverse_aux (λ c. length (collected itself ms c)) (inner ms j) stack,
    )

-- each message of the stack weighs something
pub heavy-length : (ms : List ClosedFactor) → Older ms → (stack : List ℕ) → length stack ≤ heavy ms stack
unfolding heavy sum_over
heavy-length ms old [] = omega arith
heavy-length ms old (j ∷ stack) = omega (arith, heavy-length ms old stack, ap length (all-eq itself ms old j))

-- more turns than the stack weighs change nothing
pub turns_suffice : (ms : List ClosedFactor) → Older ms → (d e : ℕ) (stack : List ℕ) → heavy ms stack ≤ d → d ≤ e → popped ms e stack ≡ popped ms d stack
unfolding popped
turns_suffice ms old zero zero stack l m = refl
turns_suffice ms old zero (suc e) [] l m = refl
turns_suffice ms old zero (suc e) (j ∷ stack) l m = absurd (omega (arith, heavy-step ms old j stack))
turns_suffice ms old (suc d) zero stack l m = absurd (omega arith)
turns_suffice ms old (suc d) (suc e) [] l m = refl
turns_suffice ms old (suc d) (suc e) (j ∷ stack) l m =
    ap (λ (r : List ℕ). j ∷ r) (turns_suffice ms old d e (reverse_aux (inner ms j) stack) (omega (arith, heavy-step ms old j stack)) (omega arith))

pub stack-all : (h : ℕ → ClosedFactor → List ℕ) (ms : List ClosedFactor) → Older ms → (d : ℕ) (stack : List ℕ) → heavy ms stack ≤ d
    → joined (λ i. h i (at ms i)) (popped ms d stack) ≡ joined (collected h ms) stack
unfolding popped joined
stack-all h ms old zero [] l = refl
stack-all h ms old zero (j ∷ stack) l = absurd (omega (arith, heavy-step ms old j stack))
stack-all h ms old (suc d) [] l = refl
stack-all h ms old (suc d) (j ∷ stack) l =
    ap (λ (r : List ℕ). h j (at ms j) ++ r)
    (stack-all h ms old d (reverse_aux (inner ms j) stack) (omega (arith, heavy-step ms old j stack))
    ∙ ap (joined (collected h ms)) (reverse_aux-eq (inner ms j) stack)
    ∙ joined-append (collected h ms) (reverse (inner ms j)) stack)
    ∙ sym (append_assoc (h j (at ms j)) (joined (collected h ms) (reverse (inner ms j))) (joined (collected h ms) stack))
    ∙ ap (λ (r : List ℕ). r ++ joined (collected h ms) stack) (sym (all-eq h ms old j))
