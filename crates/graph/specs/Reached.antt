-- The registering calls: what each is given, answers and stores, and the graphs that lists of them yield. Definitions only.
use Rattle.std.specs.Prelude.{◌≡◌, List, [], ◌∷◌, ℕ, Float}
use Rattle.graph.specs.Record.{fresh}
use Rattle.graph.specs.Registration.{Added, add_variable, add_prior, prior_store, add_observation, observation_store, superseding, superseding_store}
use Rattle.graph.specs.declared.Symbol.{Symbol}
use Rattle.graph.specs.declared.Graph.{Graph}

-- what a factor's call is given
pub data Exposure : Type 0 where
  prior : (key : ℕ) (mean variance : List Float) → Exposure
  observation : (keys : List ℕ) (rows : ℕ) (a mean variance : List Float) → Exposure

-- a registering call with what it is given; a factor's also with the store that it is lent, a superseding one first with the number that it names
pub data Call : Type 0 where
  variable : Symbol → ℕ → Call
  register : Exposure → List Float → Call
  supersede : (j : ℕ) → Exposure → List Float → Call

-- what a factor's plain call answers, the store after it, and the keys that it is given
abbrev pub entered : Graph → Exposure → List Float → Added
entered g (prior key mean variance) store = add_prior g key mean variance store
entered g (observation keys rows a mean variance) store = add_observation g keys rows a mean variance store

abbrev pub entered_store : Graph → Exposure → List Float → List Float
entered_store g (prior key mean variance) store = prior_store g key mean variance store
entered_store g (observation keys rows a mean variance) store = observation_store g keys rows a mean variance store

abbrev pub exposed : Exposure → List ℕ
exposed (prior key mean variance) = key ∷ []
exposed (observation keys rows a mean variance) = keys

-- what a call answers
abbrev pub answered : Graph → Call → Added
answered g (variable name size) = add_variable g name size
answered g (register exposure store) = entered g exposure store
answered g (supersede j exposure store) = superseding g j (entered g exposure store)

abbrev pub graph_after : Graph → Call → Graph
graph_after g c = (answered g c).graph

-- the store that a call is lent, and the store after it; a variable's call leaves the one that there is
abbrev pub lent : List Float → Call → List Float
lent store (variable name size) = store
lent store (register exposure own) = own
lent store (supersede j exposure own) = own

abbrev pub store_after : Graph → List Float → Call → List Float
store_after g store (variable name size) = store
store_after g store (register exposure own) = entered_store g exposure own
store_after g store (supersede j exposure own) = superseding_store g j own (entered_store g exposure own)

-- the keys that a call gives for its factor
abbrev pub keys_given : Call → List ℕ
keys_given (variable name size) = []
keys_given (register exposure store) = exposed exposure
keys_given (supersede j exposure store) = exposed exposure

-- the number of the factor that a call is to supersede, if it names one
abbrev pub numbers_named : Call → List ℕ
numbers_named (variable name size) = []
numbers_named (register exposure store) = []
numbers_named (supersede j exposure store) = j ∷ []

-- each call gets the graph that the last one returned, refused or not
unfoldable pub yields : Graph → List Call → Graph
yields g [] = g
yields g (c ∷ cs) = yields (graph_after g c) cs

abbrev pub Reached : Graph → Type 0
Reached g = (cs : List Call) × (yields fresh cs ≡ g)
