-- The cases of document 01 that its elimination decides, and its refusals, computed. Assumes nothing.
use mathlib.Core.Path.{◌≡◌, refl}
use mathlib.Core.Bool.{true, false}
use mathlib.Core.List.{[], ◌∷◌}
use lib.IntN.{pos, negsuc}
use lib.Ieee.{Float, binary64, of_bits, fin}
use Rattle.workspace.specs.Frames.{frame_of}
use Rattle.slots.specs.Layouts.{layout_of}
use Rattle.slots.specs.Views.{FactorView, prior, likelihood, rows_of_all, with_views}
use Rattle.slots.specs.declared.Branch.TheVariants.{Z, X}
use Rattle.gaussian.proofs.Computing.{computed}
use Rattle.gaussian.specs.Elimination.{eliminate, branched, in_branch, begun, nth, pivot, not_finite, message}

abbrev zer : Float
zer = fin false 0 (pos 0)

abbrev one : Float
one = fin false 1 (pos 0)

abbrev two : Float
two = fin false 1 (pos 1)

abbrev three : Float
three = fin false 3 (pos 0)

abbrev four : Float
four = fin false 1 (pos 2)

-- the largest number
abbrev largest : Float
largest = of_bits binary64 0x7FEFFFFFFFFFFFFF

-- P4: priors on key 0 of mean 0 and variance 1, and the observation (-1 1) of mean 4 and variance 1
abbrev p0 : FactorView
p0 = prior 0 (zer ∷ []) (one ∷ [])

abbrev ob : FactorView
ob = likelihood (0 ∷ 1 ∷ []) 1 (fin true 1 (pos 0) ∷ one ∷ []) (four ∷ []) (one ∷ [])

-- the forward message, of content originals 0, 3, 2, 1: A 1, xi 3, W 0.75
p4 : computed (p0 ∷ ob ∷ p0 ∷ p0 ∷ []) (1 ∷ []) (0 ∷ []) (1 ∷ 1 ∷ []) ≡ message 1 (one ∷ []) (three ∷ []) (fin false 3 (negsuc 1) ∷ [])
unfolding computed
p4 = refl

-- P6: key 0 gathers the backward message, one row over key 0, and originals 0, 1, 2: 4 rows against 1, the x branch
abbrev back : FactorView
back = likelihood (0 ∷ []) 1 (one ∷ []) (zer ∷ []) (one ∷ [])

p6_rows : rows_of_all (layout_of (0 ∷ []) [] (1 ∷ 1 ∷ [])) (nth (back ∷ p0 ∷ p0 ∷ p0 ∷ [])) 4 ≡ 4
unfolding rows_of_all layout_of
p6_rows = refl

p6 : eliminate (back ∷ p0 ∷ p0 ∷ p0 ∷ []) (0 ∷ []) [] (1 ∷ 1 ∷ [])
    ≡ in_branch X (frame_of 0 1 1) (layout_of (0 ∷ []) [] (1 ∷ 1 ∷ [])) (nth (back ∷ p0 ∷ p0 ∷ p0 ∷ [])) 4
unfolding eliminate branched rows_of_all layout_of
p6 = refl

-- P10: cleared blocks (1 2) and (3 4), W 1. Block (1, 0) of S has rows (3 6) and (4 8); S is 4 × 4, column by column.
p10 : (with_views Z (frame_of 4 1 1) (layout_of [] (0 ∷ 1 ∷ []) (2 ∷ 2 ∷ []))
    (nth (likelihood (0 ∷ 1 ∷ []) 1 (one ∷ two ∷ three ∷ four ∷ []) (zer ∷ []) (one ∷ []) ∷ [])) (begun Z (frame_of 4 1 1)) 1).s
    ≡ one ∷ two ∷ three ∷ four ∷ two ∷ four ∷ fin false 3 (pos 1) ∷ fin false 1 (pos 3) ∷ zer ∷ zer ∷ fin false 9 (pos 0) ∷ fin false 3 (pos 2) ∷ zer
    ∷ zer ∷ fin false 3 (pos 2) ∷ fin false 1 (pos 4) ∷ []
unfolding computed
p10 = refl

-- ---- refusals

-- 15: a cleared key that no factor touches
no_factor_lem : computed [] [] (0 ∷ []) (1 ∷ []) ≡ pivot
unfolding computed
no_factor_lem = refl

-- 17: the precisions of two priors add up to infinity
too_large : computed (prior 0 (zer ∷ []) (largest ∷ []) ∷ prior 0 (zer ∷ []) (largest ∷ []) ∷ []) (0 ∷ []) [] (1 ∷ []) ≡ not_finite
unfolding computed
too_large = refl

-- 15 comes before 17
pivot-first : computed (prior 0 (zer ∷ []) (largest ∷ []) ∷ prior 0 (zer ∷ []) (largest ∷ []) ∷ []) (0 ∷ []) (1 ∷ []) (1 ∷ 1 ∷ []) ≡ pivot
unfolding computed
pivot-first = refl

-- a message of no rows is never refused with 17, whatever h is
no_rows : computed (prior 0 (largest ∷ []) (one ∷ []) ∷ prior 0 (largest ∷ []) (one ∷ []) ∷ []) [] (0 ∷ []) (1 ∷ []) ≡ message 0 [] [] []
unfolding computed
no_rows = refl
