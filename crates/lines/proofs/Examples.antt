-- Lines worked out by computation. Assumes nothing.
use Prim.Native.Nat.{ℕ}
use mathlib.Core.Path.{◌≡◌, refl}
use mathlib.Core.List.{List, [], ◌∷◌, ◌++◌}
use Rattle.std.specs.Prelude.{Err}
use lib.Ieee.{Float, binary64, of_bits, to_bits}
use Rattle.factor.specs.Counting.{sum}
use Rattle.graph.specs.Record.{fresh}
use Rattle.graph.specs.Refusals.{refusal_number}
use Rattle.graph.specs.Registration.{with_variable}
use Rattle.graph.specs.declared.Graph.{Graph}
use Rattle.graph.specs.declared.refusal.Refusal.TheVariants.{MarginalPivot}
use Rattle.text.specs.Decimals.{decimal_by, decimal, field_text}
use Rattle.graph.specs.Moments.{start_of}
use Rattle.lines.specs.Lines.{hex_by, number_text, numbers_text, line_text, lines_text, refusal_text, written, laid_in}

-- one key of size 1
abbrev one_key : Graph
one_key = with_variable fresh (0x61, 0) 1

-- the text of all its lines, opened for computing
unfoldable text : Graph → List Float → List ℕ
unfolding lines_text line_text numbers_text number_text hex_by decimal decimal_by start_of sum to_bits of_bits
text g values = lines_text g values g.variables

-- no variables: no lines
no_lines : text fresh [] ≡ []
unfolding text
no_lines = refl

-- mean 2 and covariance 4: `0 4000000000000000 4010000000000000`
one_line : text one_key (of_bits binary64 0x4000000000000000 ∷ of_bits binary64 0x4010000000000000 ∷ [])
    ≡ (48 ∷ []) ++ (32 ∷ 52 ∷ 48 ∷ 48 ∷ 48 ∷ 48 ∷ 48 ∷ 48 ∷ 48 ∷ 48 ∷ 48 ∷ 48 ∷ 48 ∷ 48 ∷ 48 ∷ 48 ∷ 48 ∷ []) ++
    (32 ∷ 52 ∷ 48 ∷ 49 ∷ 48 ∷ 48 ∷ 48 ∷ 48 ∷ 48 ∷ 48 ∷ 48 ∷ 48 ∷ 48 ∷ 48 ∷ 48 ∷ 48 ∷ 48 ∷ []) ++ (10 ∷ [])
unfolding text
one_line = refl

-- letters are in upper case: ` 3FF6A09E667F3BCD`
root_of_two : number_text (of_bits binary64 0x3FF6A09E667F3BCD) ≡ 32 ∷ 51 ∷ 70 ∷ 70 ∷ 54 ∷ 65 ∷ 48 ∷ 57 ∷ 69 ∷ 54 ∷ 54 ∷ 55 ∷ 70 ∷ 51 ∷ 66 ∷ 67 ∷ 68 ∷ []
unfolding text
root_of_two = refl

-- `refused 16 3 0`
refused_16 : refusal_text (refusal_number MarginalPivot) 3 0 ≡ 114 ∷ 101 ∷ 102 ∷ 117 ∷ 115 ∷ 101 ∷ 100 ∷ 32 ∷ 49 ∷ 54 ∷ 32 ∷ 51 ∷ 32 ∷ 48 ∷ 10 ∷ []
unfolding text refusal_text field_text
refused_16 = refl

-- it has 15 bytes, so a buffer of 2 is left as it was
short-buffer : (written (1 ∷ 2 ∷ []) (refusal_text 16 3 0) ≡ Err (record {})) × (laid_in (1 ∷ 2 ∷ []) (refusal_text 16 3 0) ≡ 1 ∷ 2 ∷ [])
unfolding text refusal_text field_text written laid_in
short-buffer = (refl, refl)
