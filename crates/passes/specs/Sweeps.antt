-- What comes of sweeps, in what they work on.
-- Assumes nothing.
use Rattle.passes.specs.declared.sweeping.Sweeping.{Sweeping}
use Rattle.passes.specs.declared.Found.{Found}
use Rattle.passes.specs.Marks.{Finds}
use Rattle.passes.specs.Networks.{bounds_of}

-- times, or an event on a cycle that gains
abbrev pub FindsIn : Sweeping → Found → Type 0
FindsIn s = Finds (bounds_of s.net.now) s.net.now.events s.values.now s.parents.now
