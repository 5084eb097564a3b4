-- What stands in front of a case, as a struct: what its words say, but no number is above what there is room for. Assumes nothing: these are definitions.
use Rattle.std.specs.Prelude.{ℕ, ◌≡◌, min, List, get_or}
use Rattle.replay.specs.Cases.{call_of, named, expected_of}
use Rattle.replay.specs.declared.cases.Front.{Front}

pub record FrontOf (ws : List ℕ) (f : Front) : Type 0 where
  pub call : f.call ≡ named (call_of (get_or ws 1 0))
  pub signature : f.signature ≡ min (get_or ws 2 0) 65533
  pub rule : f.rule ≡ min (get_or ws 3 0) 65533
  pub counters : f.counters ≡ min (get_or ws 4 0) 65533
  pub output : f.output ≡ min (get_or ws 5 0) 66048
  pub scratch : f.scratch ≡ min (get_or ws 6 0) 66048
  pub written : f.written ≡ min (get_or ws 9 0) 16383
  pub expected : f.expected ≡ expected_of ws
