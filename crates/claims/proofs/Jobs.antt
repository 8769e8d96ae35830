-- P1, P2, P3 and P8 as jobs, by computation. Assumes nothing.
use mathlib.Core.Path.{◌≡◌, refl}
use mathlib.Core.List.{List, [], ◌∷◌, ◌++◌}
use Prim.Native.Nat.{ℕ, zero, suc, ◌≤◌}
use native.Mathlib.Omega.{arith}
use lib.Ieee.{to_bits}
use Rattle.factor.specs.Limits.{max_size}
use Rattle.text.specs.Decimals.{decimal_by, decimal, field_text}
use Rattle.graph.specs.Moments.{start_of}
use Rattle.lines.specs.Lines.{hex_by, number_text, numbers_text, line_text, lines_text, refused_word, refusal_text}
use Rattle.records.proofs.Computing.{computed_reading}
use Rattle.job.specs.Job.{run_text, job_text}
use Rattle.claims.specs.Pairs.{sized_bytes, bytes_of_variable, bytes_of_prior, equal_bytes}
use Rattle.claims.proofs.Computing.{computed_run}

-- the text, opened for computing
unfoldable pub printed : List ℕ → List ℕ
unfolding job_text run_text computed_reading lines_text line_text numbers_text number_text hex_by decimal decimal_by start_of refusal_text field_text to_bits computed_run
printed bytes = job_text bytes

-- P1: no bytes, no lines
pub no_bytes : job_text [] ≡ []
unfolding printed
no_bytes = refl

-- P2: ` 16 3 0` after the word, for each size
pub one-variable : (size : ℕ) → 1 ≤ size → size ≤ max_size → job_text (sized_bytes 0 size) ≡ refused_word ++ (32 ∷ 49 ∷ 54 ∷ 32 ∷ 51 ∷ 32 ∷ 48 ∷ 10 ∷ [])
unfolding printed
one-variable zero l m = absurd (omega arith)
one-variable (suc zero) l m = refl
one-variable (suc (suc zero)) l m = refl
one-variable (suc (suc (suc zero))) l m = refl
one-variable (suc (suc (suc (suc zero)))) l m = refl
one-variable (suc (suc (suc (suc (suc zero))))) l m = refl
one-variable (suc (suc (suc (suc (suc (suc zero)))))) l m = refl
one-variable (suc (suc (suc (suc (suc (suc (suc size))))))) l m = absurd (omega arith)

-- P3: `0`, ` 4000000000000000` and ` 4010000000000000`
pub one-prior : job_text (bytes_of_variable 0 ++ bytes_of_prior)
    ≡ (48 ∷ []) ++ (32 ∷ 52 ∷ 48 ∷ 48 ∷ 48 ∷ 48 ∷ 48 ∷ 48 ∷ 48 ∷ 48 ∷ 48 ∷ 48 ∷ 48 ∷ 48 ∷ 48 ∷ 48 ∷ 48 ∷ []) ++
    (32 ∷ 52 ∷ 48 ∷ 49 ∷ 48 ∷ 48 ∷ 48 ∷ 48 ∷ 48 ∷ 48 ∷ 48 ∷ 48 ∷ 48 ∷ 48 ∷ 48 ∷ 48 ∷ 48 ∷ []) ++ (10 ∷ [])
unfolding printed
one-prior = refl

-- P8: ` 3 0 2`, since the third record is refused
pub equal_keys : job_text (bytes_of_variable 0 ++ bytes_of_variable 1 ++ equal_bytes) ≡ refused_word ++ (32 ∷ 51 ∷ 32 ∷ 48 ∷ 32 ∷ 50 ∷ 10 ∷ [])
unfolding printed
equal_keys = refl
