use Rattle.std.proofs.Common.{ℕ, List, [], ◌∷◌, ◌++◌, append_assoc, ap, ◌∙◌}
use Rattle.iv_door.specs.Answers as answer
use Rattle.iv_following.proofs.telling.Told.push_recall.Goals as goal

pub returns : goal.returns
returns c =
    let was = c.args.self.now.out.items in
    let end = answer.recalled c.args.position ++ 10 ∷ [] in
    c.in_ok-end_recall.ensures ∙ (ap (λ (z : List ℕ). z ++ end) c.in_ok-extend_from_slice.ensures.items ∙ append_assoc was c.args.requests.now end)
