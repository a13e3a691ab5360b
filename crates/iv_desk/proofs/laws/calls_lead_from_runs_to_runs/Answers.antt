use Rattle.iv_desk.specs.Front.{stays}
use Rattle.iv_desk.proofs.RunsByCalls.{FrontRuns-GoesOn, FrontRuns-Restores, GoesOn-dismissed, GoesOn-IsHeardBy, GoesOn-offered}
use Rattle.iv_desk.proofs.laws.calls_lead_from_runs_to_runs.Goals as goal

pub returns-clause-restores : goal.returns-clause-restores
returns-clause-restores c = FrontRuns-Restores

pub returns-clause-runs : goal.returns-clause-runs
returns-clause-runs c = FrontRuns-GoesOn

pub returns-clause-hears : goal.returns-clause-hears
returns-clause-hears c = GoesOn-IsHeardBy

pub returns-clause-offers : goal.returns-clause-offers
returns-clause-offers c may ms d a = GoesOn-offered may c.events_leave_their_marks.ensures.marks d ms d stays a

pub returns-clause-dismisses : goal.returns-clause-dismisses
returns-clause-dismisses c may ms d a = GoesOn-dismissed may d ms d stays a
