-- What the calls answered is what the graph holds: the keys answered are those below the count of variables, each once, the numbers those below the
-- count of factors, a factor has the keys that its call gave, and it is live unless a later call took its place. Assumes nothing.
use mathlib.Core.Path.{◌≡◌, refl, sym, ap, ◌∙◌}
use mathlib.Core.Bool.{Bool, true, false, not, cond, ◌&&◌, ◌||◌, and-true}
use mathlib.Core.List.Memᴰ
use mathlib.Core.List.{List, [], ◌∷◌, ◌++◌, Memᴰ}
use Prim.Native.Nat.{ℕ, suc, ◌+◌, ◌≤◌, ◌<◌}
use native.Mathlib.Numerals.{add-one}
use native.Mathlib.Omega.{arith}
use native.Mathlib.Decide.{ℕ_discrete, dec_lt}
use borrow.Author.Tests.{lt-ltb, le-ltb}
use lib.Ieee.{Float}
use lib.ListN.{length, take, length-set}
use Rattle.factor.specs.declared.Factor.{Factor}
use Rattle.graph.specs.Record.{factor_at, fresh, live_at, valid, factor_keys}
use Rattle.graph.specs.Registration.{Added, refused, replacing, superseding, with_variable, with_factor, retired}
use Rattle.graph.specs.Reached.{Call, variable, register, supersede, entered, exposed, answered, graph_after, yields, Reached}
use Rattle.graph.specs.declared.Symbol.{Symbol}
use Rattle.graph.specs.declared.Graph.{Graph}
use Rattle.graph.specs.declared.refusal.Refusal.{Refusal}
use Rattle.graph.specs.declared.refusal.Refusal.TheVariants.{NotLive, NoSuchGraph}
use Rattle.graph.proofs.Calls.{entered-cases, fresh-reached, reached-more}
use Rattle.graph.proofs.Checking.{variable-cases}
use Rattle.graph.proofs.Keeping.{good_of}
use Rattle.graph.proofs.Validity.{valid-count, live_below, live-is, live_of}
use Rattle.graph.proofs.Factors.{added_at, added_else, retired-at, retired_else}
use Rattle.schedule.specs.Count.{count, mem, put_if, keep, from, rising_where}
use Rattle.schedule.proofs.Counts.{hit_same, hit_other, count-cons, count-nil, rising-same}
use Rattle.plan.proofs.Membership.{mem-append, mem-nil}
use Rattle.solver.specs.Plan.{live_numbers}
use Rattle.claims.specs.Demand3.{Accepted, key_in, factor_in, keys_answered, accepted, numbers_answered, superseded_in, superseded, live}

-- ---- the calls of a list

-- what the answers ks, fs and ss have to do with the graph h that the calls yield from g
record Read (g h : Graph) (ks : List ℕ) (fs : List Accepted) (ss : List ℕ) : Type 0 where
  more-keys : ℕ
  keys : ks ≡ from g.variables more-keys
  variables : h.variables ≡ g.variables + more-keys
  more_factors : ℕ
  numbered : numbers_answered fs ≡ from g.count more_factors
  count : h.count ≡ g.count + more_factors
  -- what was registered before keeps its keys
  older : (i : ℕ) → i < g.count → factor_keys h i ≡ factor_keys g i
  given : (f : Accepted) → Memᴰ f fs → f.keys ≡ factor_keys h f.number
  -- what was live before stays so unless it is superseded, and so does a new factor
  stays : (i : ℕ) → i < g.count → live_at h i ≡ (live_at g i && not (mem i ss))
  new : (i : ℕ) → g.count ≤ i → i < h.count → live_at h i ≡ not (mem i ss)

-- the keys of a factor that is there
keys_of : (g : Graph) (i : ℕ) → i < g.count → factor_keys g i ≡ take (factor_at g i).touched (factor_at g i).keys
unfolding factor_keys
keys_of g i l = rw (lt-ltb i g.count l)

-- ---- a factor more

module _ (g : Graph) (f : Factor) where
  abbrev with_it : Graph
  with_it = with_factor g f

  module _ (l : g.count < length g.factors) where
    new-keys : factor_keys with_it g.count ≡ take f.touched f.keys
    new-keys = keys_of with_it g.count (omega arith) ∙ ap (λ (x : Factor). take x.touched x.keys) (added_at g f l)

    new-live : f.live ≡ true → live_at with_it g.count ≡ true
    new-live e = live_of with_it g.count (omega arith) (ap (λ (x : Factor). x.live) (added_at g f l) ∙ e)

  old_keys : (i : ℕ) → i < g.count → factor_keys with_it i ≡ factor_keys g i
  old_keys i l = keys_of with_it i (omega arith) ∙ ap (λ (x : Factor). take x.touched x.keys) (added_else g f i (λ e. omega arith)) ∙ sym (keys_of g i l)

  old_live : (i : ℕ) → i < g.count → live_at with_it i ≡ live_at g i
  old_live i l = live-is with_it i (omega arith) ∙ ap (λ (x : Factor). x.live) (added_else g f i (λ e. omega arith)) ∙ sym (live-is g i l)

-- ---- a factor retired

module _ (g : Graph) (j : ℕ) (l : j < g.count) (long : j < length g.factors) where
  gone : live_at (retired g j) j ≡ false
  gone = live-is (retired g j) j l ∙ ap (λ (x : Factor). x.live) (retired-at g j long)

  others-live : (i : ℕ) → (i ≡ j → ⊥) → i < g.count → live_at (retired g j) i ≡ live_at g i
  others-live i d m = live-is (retired g j) i m ∙ ap (λ (x : Factor). x.live) (retired_else g j i d) ∙ sym (live-is g i m)

  retired-keys : (i : ℕ) → i < g.count → factor_keys (retired g j) i ≡ factor_keys g i
  retired-keys i m = keys_of (retired g j) i m ∙ go (ℕ_discrete i j) ∙ sym (keys_of g i m)
    where
      touched : Factor → List ℕ
      touched x = take x.touched x.keys

      go : Dec (i ≡ j) → touched (factor_at (retired g j) i) ≡ touched (factor_at g i)
      go (yes e) = rw (e, retired-at g j long) refl
      go (no d) = ap touched (retired_else g j i d)

same_keys : (g : Graph) (name : Symbol) (size i : ℕ) → factor_keys (with_variable g name size) i ≡ factor_keys g i
unfolding factor_keys
same_keys g name size i = refl

same_live : (g : Graph) (name : Symbol) (size i : ℕ) → live_at (with_variable g name size) i ≡ live_at g i
unfolding live_at
same_live g name size i = refl

from_more : (a n : ℕ) → a ∷ from (a + 1) n ≡ from a (suc n)
unfolding from
from_more a n = ap (λ (b : ℕ). a ∷ from b n) (add-one a)

-- ---- a call before the others

gone_both : (x a b : Bool) → ((x && not a) && not b) ≡ (x && not (a || b))
gone_both true true b = refl
gone_both true false b = refl
gone_both false a b = refl

-- one that adds a factor, in place of those of the numbers olds
pub record Adds (g h : Graph) (keys olds : List ℕ) : Type 0 where
  pub variables : h.variables ≡ g.variables
  pub count : h.count ≡ g.count + 1
  pub older : (i : ℕ) → i < g.count → factor_keys h i ≡ factor_keys g i
  pub own : factor_keys h g.count ≡ keys
  pub stays : (i : ℕ) → i < g.count → live_at h i ≡ (live_at g i && not (mem i olds))
  pub new : live_at h g.count ≡ true
  pub lower : (i : ℕ) → g.count ≤ i → mem i olds ≡ false

module _ (g m h : Graph) (keys olds ks : List ℕ) (fs : List Accepted) (ss : List ℕ) (a : Adds g m keys olds) (r : Read m h ks fs ss) where
  -- what is said of a number twice
  joins : (i : ℕ) (x : Bool) → ((x && not (mem i olds)) && not (mem i ss)) ≡ (x && not (mem i (olds ++ ss)))
  joins i x = gone_both x (mem i olds) (mem i ss) ∙ ap (λ (b : Bool). x && not b) (sym (mem-append i olds ss))

  later : (i : ℕ) → g.count ≤ i → not (mem i ss) ≡ not (mem i (olds ++ ss))
  later i l = ap (λ (b : Bool). (true && not b) && not (mem i ss)) (sym (a.lower i l)) ∙ joins i true

  factor-more : Read g h ks (record { number = g.count; keys = keys } ∷ fs) (olds ++ ss)
  factor-more =
      record {
        more-keys = r.more-keys;
        keys = r.keys ∙ ap (λ (n : ℕ). from n r.more-keys) a.variables;
        variables = omega (arith, r.variables, a.variables);
        more_factors = suc r.more_factors;
        numbered = ap (λ (l : List ℕ). g.count ∷ l) (r.numbered ∙ ap (λ (n : ℕ). from n r.more_factors) a.count)
            ∙ from_more g.count r.more_factors;
        count = omega (arith, r.count, a.count);
        older = λ i l. r.older i (omega (arith, a.count)) ∙ a.older i l;
        given = given_too;
        stays = λ i l. r.stays i (omega (arith, a.count)) ∙ ap (λ (b : Bool). b && not (mem i ss)) (a.stays i l) ∙ joins i (live_at g i);
        new = λ i l n. new_too i l n (dec_lt g.count i);
      }
    where
      own : keys ≡ factor_keys h g.count
      own = sym (r.older g.count (omega (arith, a.count)) ∙ a.own)

      given_too : (x : Accepted) → Memᴰ x (record { number = g.count; keys = keys } ∷ fs) → x.keys ≡ factor_keys h x.number
      given_too x (Memᴰ.head q) = ap (λ (y : Accepted). y.keys) q ∙ own ∙ ap (λ (y : Accepted). factor_keys h y.number) (sym q)
      given_too x (Memᴰ.tail t) = r.given x t

      new_too : (i : ℕ) → g.count ≤ i → i < h.count → Dec (g.count < i) → live_at h i ≡ not (mem i (olds ++ ss))
      new_too i l n (yes q) = r.new i (omega (arith, a.count)) n ∙ later i l
      new_too i l n (no q) =
          let e : i ≡ g.count = omega arith in
          r.stays i (omega (arith, a.count)) ∙ ap (λ (b : Bool). b && not (mem i ss)) (ap (live_at m) e ∙ a.new) ∙ later i l

-- a factor's place is named once
module _ (j : ℕ) where
  named-one : mem j (j ∷ []) ≡ true
  named-one = lt-ltb 0 (count j (j ∷ [])) (omega (arith, count-cons j j [], hit_same j))

  not_named : (i : ℕ) → (i ≡ j → ⊥) → mem i (j ∷ []) ≡ false
  not_named i d = le-ltb 0 (count i (j ∷ [])) (omega (arith, count-cons i j [], hit_other i j d, count-nil i))

and-false : (x : Bool) → (x && false) ≡ false
and-false true = refl
and-false false = refl

module _ (g : Graph) (f : Factor) (alive : f.live ≡ true) (l : g.count < length g.factors) where
  pub taken_adds : Adds g (with_factor g f) (take f.touched f.keys) []
  taken_adds =
      record {
        variables = refl;
        count = refl;
        older = old_keys g f;
        own = new-keys g f l;
        stays = λ i m. old_live g f i m ∙ sym (and-true (live_at g i)) ∙ ap (λ (b : Bool). live_at g i && not b) (sym (mem-nil i));
        new = new-live g f l alive;
        lower = λ i m. mem-nil i;
      }

  module _ (j : ℕ) (b : j < g.count) where
    below : j < g.count + 1
    below = omega arith

    long : j < length (with_factor g f).factors
    long = omega (arith, length-set g.factors g.count f)

    replaced_adds : Adds g (retired (with_factor g f) j) (take f.touched f.keys) (j ∷ [])
    replaced_adds =
        record {
          variables = refl;
          count = refl;
          older = λ i m. retired-keys (with_factor g f) j below long i (omega arith) ∙ old_keys g f i m;
          own = retired-keys (with_factor g f) j below long g.count (omega arith) ∙ new-keys g f l;
          stays = λ i m. stays i m (ℕ_discrete i j);
          new = others-live (with_factor g f) j below long g.count (λ e. omega arith) (omega arith) ∙ new-live g f l alive;
          lower = λ i m. not_named j i (λ e. omega arith);
        }
      where
        stays : (i : ℕ) → i < g.count → Dec (i ≡ j) → live_at (retired (with_factor g f) j) i ≡ (live_at g i && not (mem i (j ∷ [])))
        stays i m (yes e) =
            ap (live_at (retired (with_factor g f) j)) e ∙ gone (with_factor g f) j below long ∙ sym (and-false (live_at g i))
            ∙ ap (λ (x : Bool). live_at g i && not x) (sym (ap (λ (y : ℕ). mem y (j ∷ [])) e ∙ named-one j))
        stays i m (no d) =
            others-live (with_factor g f) j below long i d (omega arith) ∙ old_live g f i m ∙ sym (and-true (live_at g i))
            ∙ ap (λ (x : Bool). live_at g i && not x) (sym (not_named j i d))

-- a call that has answered r, with what it adds to what the later calls answered
module _ (c : Call) (g h : Graph) (ks : List ℕ) (fs : List Accepted) (ss : List ℕ) where
  Told : Added → Type 0
  Told x = Read x.graph h ks fs ss → Read g h (key_in c x.outcome ++ ks) (factor_in c x.outcome ++ fs) (superseded_in c x.outcome ++ ss)

-- a superseding call, by whether the factor that it names is live
superseding-cases : (g : Graph) (j : ℕ) (plain : Added) (P : Added → Type 0) → ((why : Refusal) → P (refused g why))
    → (live_at g j ≡ true → P (replacing plain.graph j plain.outcome)) → P (superseding g j plain)
unfolding superseding
superseding-cases g j plain P back kept = go (valid g) (live_at g j) refl
  where
    go : (a b : Bool) → live_at g j ≡ b → P (cond (not a) (refused g NoSuchGraph) (cond (not b) (refused g NotLive) (replacing plain.graph j plain.outcome)))
    go true true l = kept l
    go true false l = back NotLive
    go false b l = back NoSuchGraph

one_more : (c : Call) (g h : Graph) (ks : List ℕ) (fs : List Accepted) (ss : List ℕ) → (graph_after g c).count ≤ length g.factors
    → Told c g h ks fs ss (answered g c)
unfolding key_in factor_in superseded_in Told
one_more (variable name size) g h ks fs ss room =
    variable-cases g name size (Told (variable name size) g h ks fs ss) (λ why r. r)
    (λ n r. record {
      more-keys = suc r.more-keys;
      keys = ap (λ (l : List ℕ). g.variables ∷ l) r.keys ∙ from_more g.variables r.more-keys;
      variables = omega (arith, r.variables);
      more_factors = r.more_factors;
      numbered = r.numbered;
      count = r.count;
      older = λ i l. r.older i l ∙ same_keys g name size i;
      given = r.given;
      stays = λ i l. r.stays i l ∙ ap (λ (b : Bool). b && not (mem i ss)) (same_live g name size i);
      new = r.new;
    })
one_more (register exposure own) g h ks fs ss room =
    entered-cases g exposure own (λ x s. x.graph.count ≤ length g.factors → Told (register exposure own) g h ks fs ss x) (λ why l r. r)
    (λ f a mean variance xi w t e l r. factor-more g _ h (exposed exposure) [] ks fs ss (rw (← e) (taken_adds g f t.alive (omega arith))) r) room
one_more (supersede j exposure own) g h ks fs ss room =
    superseding-cases g j (entered g exposure own) (λ x. x.graph.count ≤ length g.factors → Told (supersede j exposure own) g h ks fs ss x) (λ why l r. r)
    (λ alive. entered-cases g exposure own
    (λ x s. (replacing x.graph j x.outcome).graph.count ≤ length g.factors → Told (supersede j exposure own) g h ks fs ss (replacing x.graph j x.outcome))
    (λ why l r. r)
    (λ f a mean variance xi w t e l r. factor-more g _ h (exposed exposure) (j ∷ []) ks fs ss
    (rw (← e) (replaced_adds g f t.alive (omega arith) j (live_below g j alive))) r)) room

pub room_in : (g : Graph) (c : Call) → Reached g → (graph_after g c).count ≤ length g.factors
room_in g c r = omega (arith, valid-count (graph_after g c) (good_of (graph_after g c) (reached-more g _ c r refl)).1, (good_of g r).0.factors)

read-from : (cs : List Call) (g : Graph) → Reached g → Read g (yields g cs) (keys_answered g cs) (accepted g cs) (superseded g cs)
unfolding yields keys_answered accepted superseded from Told
read-from [] g r =
    record {
      more-keys = 0;
      keys = refl;
      variables = omega arith;
      more_factors = 0;
      numbered = refl;
      count = omega arith;
      older = λ i l. refl;
      given = λ f m. absurd (Memᴰ.not-nil m);
      stays = λ i l. sym (and-true (live_at g i)) ∙ ap (λ (b : Bool). live_at g i && not b) (sym (mem-nil i));
      new = λ i l m. absurd (omega arith);
    }
read-from (c ∷ cs) g r =
    one_more c g (yields (graph_after g c) cs) (keys_answered (graph_after g c) cs) (accepted (graph_after g c) cs) (superseded (graph_after g c) cs)
    (room_in g c r) (read-from cs (graph_after g c) (reached-more g _ c r refl))

-- ---- from a fresh graph

-- the numbers of factors that pass a test of their numbers
kept-numbers : (p : ℕ → Bool) (fs : List Accepted) → numbers_answered (keep (λ (f : Accepted). p f.number) fs) ≡ keep p (numbers_answered fs)
unfolding keep
kept-numbers p [] = refl
kept-numbers p (f ∷ fs) = go (p f.number) (kept-numbers p fs)
  where
    go : (b : Bool) → numbers_answered (keep (λ (f : Accepted). p f.number) fs) ≡ keep p (numbers_answered fs)
        → numbers_answered (put_if b f (keep (λ (f : Accepted). p f.number) fs)) ≡ put_if b f.number (keep p (numbers_answered fs))
    go true e = ap (λ (l : List ℕ). f.number ∷ l) e
    go false e = e

kept-member : (p : Accepted → Bool) (fs : List Accepted) (f : Accepted) → Memᴰ f (keep p fs) → Memᴰ f fs
unfolding keep
kept-member p [] f m = m
kept-member p (x ∷ fs) f m = go (p x) (kept-member p fs f) m
  where
    go : (b : Bool) → (Memᴰ f (keep p fs) → Memᴰ f fs) → Memᴰ f (put_if b x (keep p fs)) → Memᴰ f (x ∷ fs)
    go true h (Memᴰ.head e) = Memᴰ.head e
    go true h (Memᴰ.tail m) = Memᴰ.tail (h m)
    go false h m = Memᴰ.tail (h m)

module _ (cs : List Call) where
  abbrev g : Graph
  g = yields fresh cs

  pub reached : Reached g
  reached = (cs, refl)

  read : Read fresh g (keys_answered fresh cs) (accepted fresh cs) (superseded fresh cs)
  unfolding yields
  read = read-from cs fresh fresh-reached

  pub keys-are : keys_answered fresh cs ≡ from 0 g.variables
  keys-are = let e : read.more-keys ≡ g.variables = omega (arith, read.variables) in read.keys ∙ ap (from 0) e

  pub numbers-are : numbers_answered (accepted fresh cs) ≡ from 0 g.count
  numbers-are = let e : read.more_factors ≡ g.count = omega (arith, read.count) in read.numbered ∙ ap (from 0) e

  -- the live factors are those that the graph has
  pub live-are : numbers_answered (live fresh cs) ≡ live_numbers g
  unfolding live rising_where
  live-are =
      kept-numbers (λ i. not (mem i (superseded fresh cs))) (accepted fresh cs)
      ∙ ap (keep (λ i. not (mem i (superseded fresh cs)))) numbers-are
      ∙ rising-same g.count (λ i. not (mem i (superseded fresh cs))) (λ i. live_at g i) (λ i l. sym (read.new i (omega arith) l))

  pub given-are : (f : Accepted) → Memᴰ f (live fresh cs) → f.keys ≡ factor_keys g f.number
  unfolding live
  given-are f m = read.given f (kept-member _ (accepted fresh cs) f m)
