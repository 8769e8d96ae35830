-- The definitions of registering calls, plans and runs, open to computing. Assumes nothing.
use Prim.Native.Nat.{ℕ}
use mathlib.Core.List.{List}
use lib.Ieee.{Float}
use Rattle.graph.specs.Moments.{start_of}
use Rattle.matrix.specs.Products.{quadform_at, quadform_of}
use Rattle.graph.specs.Reached.{Call}
use Rattle.graph.specs.declared.Graph.{Graph}
use Rattle.graph.proofs.Computing.{computed_call}
use Rattle.schedule.specs.Count as counts
use Rattle.schedule.specs.Plan as schedule
use Rattle.gaussian.specs.Marginals.{moments_of}
use Rattle.gaussian.proofs.Computing.{computed}
use Rattle.tables.specs.Originals.{original_view}
use Rattle.messages.specs.Values as values
use Rattle.messages.specs.Figure.{slot_rows, rows_in, rows_to, need_to, need}
use Rattle.solver.specs.Plan.{graph_plan, planned}
use Rattle.marginals.specs.Marginals as found
use Rattle.solver.specs.Run as runs
use Rattle.solver.specs.Run.{RunVerdict, run}
use Rattle.claims.specs.Pairs.{Built, called, lent_to, built}
use Rattle.graph.specs.Record.{factor_keys}
use Rattle.gaussian.specs.Elimination.{numbers_in}

-- the graph and the store that calls make
unfoldable pub computed_calls : ℕ → List (List Float → Call) → Built
unfolding built lent_to called computed_call
computed_calls n cs = built n cs

-- the run
unfoldable pub computed_run : Graph → List Float → List Float → ℕ → List Float → RunVerdict
unfolding run runs.checked runs.carried runs.first runs.second runs.third runs.figure_of start_of found.gathered_views found.found_by
    found.found_in found.marginal found.marginals_from found.missing_from found.marginals_in planned graph_plan schedule.plan counts.sum_over factor_keys
    counts.rising_where counts.keep counts.from
    need need_to rows_to rows_in slot_rows values.message_view values.slot_view values.message_made values.values_to values.values values.refusal_from
    values.finished_numbers original_view numbers_in moments_of quadform_of quadform_at computed computed_calls
computed_run g factors messages work marginals = run g factors messages work marginals
