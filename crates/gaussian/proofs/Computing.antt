-- The definition of elimination, open to computing. Assumes nothing.
use Prim.Native.Nat.{ℕ}
use mathlib.Core.List.{List}
use lib.Ieee.{add}
use Rattle.matrix.specs.Sums.{accumulate, dot_of}
use Rattle.matrix.specs.Stores.{block_column, block}
use Rattle.matrix.specs.Products.{product}
use Rattle.matrix.specs.Triangles.{filled_diagonal, filled_upper, filled_column}
use Rattle.cholesky.proofs.Computing.{computed_exchange}
use Rattle.blocks.specs.Blocks as blocks
use Rattle.workspace.specs.Blocks.{stamp, solved_columns, transposed_times}
use Rattle.workspace.specs.Sums.{change, turns}
use Rattle.workspace.specs.Frames.{frame_of}
use Rattle.slots.specs.Layouts.{layout_of}
use Rattle.slots.specs.Views as views
use Rattle.slots.specs.Views.{FactorView, rows_of_all, with_views}
use Rattle.gaussian.specs.Elimination.{eliminate, branched, in_branch, begun, factorised, ended, lost, outcome, Outcome}

-- the definition, open to computing
unfoldable pub computed : List FactorView → List ℕ → List ℕ → List ℕ → Outcome
unfolding eliminate branched in_branch outcome factorised ended lost begun frame_of layout_of rows_of_all with_views views.with_view views.with_prior
    views.with_rows views.with_keys views.with_key views.with_own views.with_products views.with_product views.target_of blocks.column_of change turns stamp
    filled_diagonal filled_upper filled_column solved_columns transposed_times accumulate dot_of block_column block product add computed_exchange
computed views kept cleared sizes = eliminate views kept cleared sizes
