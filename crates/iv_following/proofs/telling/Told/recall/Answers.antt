use Rattle.std.proofs.Common.{ℕ, List, [], ◌∷◌, ◌++◌, ap, ◌∙◌}
use Rattle.iv_door.specs.Answers as answer
use Rattle.iv_following.proofs.telling.Told.recall.Goals as goal

pub returns-in-Ok-push_recall-clause-recalled : goal.returns-in-Ok-push_recall-clause-recalled
returns-in-Ok-push_recall-clause-recalled c =
    let w = c.in-Ok-recalled_in.ensures in
    let was = c.args.self.now.out.items in
    let end = answer.recalled c.args.position ++ 10 ∷ [] in
    record {
      bytes = c.deref.result.now;
      given = w.0;
      lines = w.1;
      told = c.in-Ok-push_recall.ensures ∙ ap (λ (z : List ℕ). was ++ (z ++ end)) (c.deref-2.ensures.value ∙ w.2);
    }
