-- The whole gathering.
-- Assumes nothing.
use mathlib.Core.Path.{◌≡◌, refl, sym, ap, ap₂, subst, ◌∙◌}
use mathlib.Core.Bool.{Bool, true, false, not, ◌&&◌, ◌||◌}
use mathlib.Core.Logic.{◌⊎◌, inl, inr}
use mathlib.Core.List.{List, [], ◌++◌, Memᴰ}
use Prim.Native.Nat.{ℕ, ◌+◌, ◌^◌, ◌≤◌, ◌<◌}
use native.Mathlib.Omega.{arith}
use lib.Bits.{bit_and, bit_or, bit_xor}
use lib.Dec.{T, eqb, not_T}
use lib.ListN.{length, get_or, take, drop, length-append}
use lib.Seq.{drop_at}
use Rattle.factor.specs.Limits.{max_variables}
use Rattle.schedule.specs.Count.{mem, any, keep, joined}
use Rattle.schedule.specs.Pass.{at}
use Rattle.schedule.specs.Gather.{alive_messages, leaves, keys_last, uncovered, gathering, gather_at}
use Rattle.schedule.specs.Gather as schedule
use Rattle.schedule.proofs.Counts.{or_e, and_l, any_some, rising-same}
use Rattle.plan.specs.Mask.{has, keys_in, Union}
use Rattle.plan.specs.Pass.{messages_of, Agrees}
use Rattle.plan.specs.Gather.{Alive, items_of, others, OthersListed, SetListed, Kept, Gatherable, gathered_of, Keyed}
use Rattle.plan.specs.declared.pass.Pass.{Pass}
use Rattle.plan.specs.declared.gather.Listing.{Listing}
use Rattle.plan.specs.declared.gather.Gathered.{Gathered}
use Rattle.plan.proofs.Digits.{differs, has-and, has-or, has-xor, has-single}
use Rattle.plan.proofs.Membership.{sure_false, mem-append, mem-joined, any_same, rising_on}
use Rattle.plan.proofs.Listings.{items-length}

not-both : (a b : Bool) → differs a (a && b) ≡ a && not b
not-both true b = refl
not-both false b = refl

-- the keys of a set but k
last-is : (n : ℕ) (k touched own : ℕ) (ks : List ℕ) → n ≤ max_variables → own ≡ 2 ^ k → ((j : ℕ) → j < max_variables → has j touched ≡ mem j ks)
    → ((j : ℕ) → T (mem j ks) → j < n)
    → keys_in (bit_xor touched (bit_and touched own)) ≡ keys_last n k ks
unfolding keys_in keys_last
last-is n k touched own ks f e h low =
    rising-same max_variables (λ j. has j (bit_xor touched (bit_and touched own))) (λ j. mem j ks && not (eqb j k))
    (λ j l.
    has-xor j touched (bit_and touched own) ∙ ap (differs (has j touched)) (has-and j touched own) ∙ not-both (has j touched) (has j own)
    ∙ ap₂ (λ (x y : Bool). x && not y) (h j l) (ap (has j) e ∙ has-single j k))
    ∙ rising_on n max_variables (λ j. mem j ks && not (eqb j k)) f
    (λ j l. sure_false (mem j ks && not (eqb j k)) (not_T (mem j ks && not (eqb j k)) (λ t. omega (arith, low j (and_l (mem j ks) (not (eqb j k)) t)))))

low-joined : {A : Type 0} (n : ℕ) (g : A → List ℕ) (l : List A) (j : ℕ) → ((e : A) → T (mem j (g e)) → j < n) → T (mem j (joined g l)) → j < n
low-joined {A} n g l j h t = go (any_some (λ e. mem j (g e)) l (subst T (mem-joined j g l) t))
  where
    go : (e : A) × Memᴰ e l × T (mem j (g e)) → j < n
    go (e, m, q) = h e q

low-append : (n : ℕ) (a b : List ℕ) (j : ℕ) → (T (mem j a) → j < n) → (T (mem j b) → j < n) → T (mem j (a ++ b)) → j < n
low-append n a b j f g t = go (or_e (mem j a) (mem j b) (subst T (mem-append j a b) t))
  where
    go : T (mem j a) ⊎ T (mem j b) → j < n
    go (inl q) = f q
    go (inr q) = g q

module _ (fw bw : Pass) (live : List ℕ) (count r s : ℕ) (pre : Gatherable fw bw live count r s) (f g : ℕ) (af : Alive r fw f) (ag : Alive s bw g)
    (e : Listing) (none : e.count ≡ 0) where
  abbrev A : List ℕ
  A = joined (leaves (messages_of fw)) (alive_messages r (messages_of fw))

  abbrev B : List ℕ
  B = joined (leaves (messages_of bw)) (alive_messages s (messages_of bw))

  abbrev U : List ℕ
  U = keep (λ i. not (mem i (A ++ B))) (take count live)

  module _ (one : Listing) (o1 : SetListed fw f e one) where
    empty : items_of e ≡ []
    empty = ap (λ (n : ℕ). take n e.items) none

    one-items : items_of one ≡ A
    one-items = o1.items ∙ ap₂ (λ (x y : List ℕ). x ++ joined (leaves (messages_of fw)) y) empty af.is

    module _ (two : Listing) (o2 : SetListed bw g one two) where
      two_items : items_of two ≡ A ++ B
      two_items = o2.items ∙ ap₂ (λ (x y : List ℕ). x ++ joined (leaves (messages_of bw)) y) one-items ag.is

      others-are : others live count two ≡ U
      others-are = ap (λ (x : List ℕ). keep (λ i. not (mem i x)) (take count live)) two_items

      two-count : two.count ≡ length A + length B
      two-count = sym (items-length two o2.space) ∙ ap length two_items ∙ length-append A B

      module _ (all : Listing) (o3 : OthersListed live count two all) where
        all-items : items_of all ≡ (A ++ B) ++ U
        all-items = o3.items ∙ ap₂ (λ (x y : List ℕ). x ++ y) two_items others-are

        rest_items : drop two.count (items_of all) ≡ U
        rest_items = ap (drop two.count) all-items ∙ drop_at (A ++ B) U two.count (length-append A B ∙ sym two-count)

        module _ (keys : List ℕ) (k fk bk uk own : ℕ) (hf : Kept fw f fk) (hb : Kept bw g bk)
            (hu : Union keys two.count all.count all.items uk) (eo : own ≡ 2 ^ k) where
          abbrev touched : ℕ
          touched = bit_or (bit_or fk bk) uk

          abbrev answer : Gathered
          answer = record {
            forward = f;
            backward = g;
            items = all.items;
            covered = two.count;
            count = all.count;
            last = bit_xor touched
                (bit_and touched own);
          }

          module _ (n : ℕ) (K : ℕ → List ℕ) (ag' : Agrees keys K) (kd : Keyed n K fw bw) where
            abbrev FK : List ℕ
            FK = joined (λ j. (at (messages_of fw) j).kept) (alive_messages r (messages_of fw))

            abbrev BK : List ℕ
            BK = joined (λ j. (at (messages_of bw) j).kept) (alive_messages s (messages_of bw))

            UK : (j : ℕ) → has j uk ≡ mem j (joined K U)
            UK j =
                hu j ∙ any_same (λ x. has j (get_or keys x 0)) (λ x. mem j (K x)) (drop two.count (items_of all)) (λ x. ag' x j)
                ∙ ap (any (λ x. mem j (K x))) rest_items ∙ sym (mem-joined j K U)

            are : (j : ℕ) → j < max_variables → has j touched ≡ mem j ((FK ++ BK) ++ joined K U)
            are j l =
                has-or j (bit_or fk bk) uk
                ∙ ap₂ (λ (x y : Bool). x || y)
                (has-or j fk bk
                ∙ ap₂ (λ (x y : Bool). x || y)
                (hf af.low j l ∙ ap (λ (x : List ℕ). mem j (joined (λ j. (at (messages_of fw) j).kept) x)) af.is)
                (hb ag.low j l ∙ ap (λ (x : List ℕ). mem j (joined (λ j. (at (messages_of bw) j).kept) x)) ag.is)
                ∙ sym (mem-append j FK BK))
                (UK j)
                ∙ sym (mem-append j (FK ++ BK) (joined K U))

            low : (j : ℕ) → T (mem j ((FK ++ BK) ++ joined K U)) → j < n
            low j =
                low-append n (FK ++ BK) (joined K U) j
                (low-append n FK BK j
                (low-joined n (λ j. (at (messages_of fw) j).kept) (alive_messages r (messages_of fw)) j (λ i. kd.forward i j))
                (low-joined n (λ j. (at (messages_of bw) j).kept) (alive_messages s (messages_of bw)) j (λ i. kd.backward i j)))
                (low-joined n K U j (λ i. kd.originals i j))

            abbrev made : List ℕ → List ℕ → List ℕ → List ℕ → List ℕ → schedule.Gathered
            made fa ba un ls la = record { forward = fa; backward = ba; originals = un; leaves = ls; last = la }

            pub gathers : gathered_of answer ≡ gather_at n K (take count live) (messages_of fw) (messages_of bw) r s k
            unfolding gathered_of gather_at gathering uncovered
            gathers =
                ap₂ (λ (x y : List ℕ). made x y (drop two.count (items_of all)) (items_of all) (keys_in answer.last)) af.is ag.is
                ∙ ap₂ (λ (x y : List ℕ). made (alive_messages r (messages_of fw)) (alive_messages s (messages_of bw)) x y (keys_in answer.last))
                rest_items all-items
                ∙ ap (made (alive_messages r (messages_of fw)) (alive_messages s (messages_of bw)) U ((A ++ B) ++ U))
                (last-is n k touched own ((FK ++ BK) ++ joined K U) kd.few eo are low)
