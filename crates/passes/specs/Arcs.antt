-- An arc as the code follows it.
-- Assumes nothing.
use Rattle.std.specs.Prelude.{ℕ, ◌<◌, ◌≡◌}
use Rattle.walks.specs.Walks.{Arc}
use Rattle.passes.specs.declared.arc.Arc.{Arc as CodeArc}
use Rattle.passes.specs.declared.arrays.Network.{Network}
use Rattle.passes.specs.Marks.{Code}
use Rattle.passes.specs.Networks.{bounds_of}

-- as `walks` speaks of it
abbrev pub arc_of : CodeArc → Arc
arc_of a = record { from = a.from; to = a.to; adds = a.adds }

-- it has this code, which is one of the network's bounds, and goes between its events
pub record IsOf (net : Network) (code : ℕ) (a : CodeArc) : Type 0 where
  pub code_is : a.code ≡ code
  pub coded : Code (bounds_of net) a.code
  pub from_in : a.from < net.events
  pub to_in : a.to < net.events
