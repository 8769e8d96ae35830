-- The registering calls, open to computing: a law that unfolds `computed_call` unfolds all that they rest on. Assumes nothing.
use mathlib.Core.Bool.{Bool}
use lib.Ieee.{eq}
use Rattle.cholesky.proofs.Computing.{computed_exchange}
use Rattle.factor.specs.Counting.{every, all, sum}
use Rattle.factor.specs.Factor.{above, key_fits, rows_fit, fits, is_clear, first_column, a_numbers, numbers, lengths_fit, given_finite, symmetric}
use Rattle.graph.specs.Record.{scalar, size_fits, same, free, total, registered, clear, variable_place, variables_fit, factor_place, factors_fit}
use Rattle.graph.specs.Record.{offset, live_at, last_live, valid}
use Rattle.graph.specs.Registration.{Added, add_variable, factor_verdict, prior_verdict, add_prior, prior_store, counts_fit, observation_verdict}
use Rattle.graph.specs.Registration.{add_observation, observation_store, superseding, superseding_store}
use Rattle.graph.specs.Reached.{Call, answered}
use Rattle.graph.specs.declared.Graph.{Graph}

-- the test of a record
unfoldable pub computed_test : Graph → Bool
unfolding valid every all variables_fit factors_fit variable_place registered clear same factor_place fits key_fits rows_fit is_clear above total sum scalar
    size_fits free offset numbers a_numbers first_column live_at last_live
computed_test g = valid g

unfoldable pub computed_call : Graph → Call → Added
unfolding add_variable add_prior add_observation prior_store observation_store prior_verdict observation_verdict counts_fit factor_verdict lengths_fit
    given_finite symmetric eq superseding superseding_store computed_test computed_exchange
computed_call g c = answered g c
