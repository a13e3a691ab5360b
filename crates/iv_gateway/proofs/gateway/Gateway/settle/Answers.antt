use Rattle.std.proofs.Common.{◌≡◌, ◌∙◌, ◌++◌, List, Option, Some, None, [], length, option_map, refl, take, ap, sym, subst, append-nil}
use Rattle.std.proofs.Math.Seq.{take-length}
use Rattle.iv_journal.specs.Journal.{Line}
use Rattle.iv_gateway.proofs.gateway.Gateway.settle.Goals as goal

nothing_more : (known : Option (List Line)) → known ≡ option_map (λ ls. ls ++ []) known
nothing_more None = refl
nothing_more (Some ls) = ap Some (sym (append-nil ls))

pub returns-then-self-clause-torn : goal.returns-then-self-clause-torn
returns-then-self-clause-torn g c = (0, nothing_more _)

pub returns-in-Err-clause-torn : goal.returns-in-Err-clause-torn
returns-in-Err-clause-torn g c = let t = c.in-Err.ensures.torn in (
  t.0,
  subst (λ z. g.J.Journal.kept c.append.new.self ≡ option_map (λ ls. ls ++ take t.0 z) (g.J.Journal.kept c.args.journal.now)) c.deref.ensures.value t.2,
)

pub returns-in-Err-release-clause-torn : goal.returns-in-Err-release-clause-torn
returns-in-Err-release-clause-torn g c = (
  length c.args.self.now.pending.items,
  subst (λ z. g.J.Journal.kept c.append.new.self ≡ option_map (λ ls. ls ++ z) (g.J.Journal.kept c.args.journal.now))
      (c.deref.ensures.value ∙ sym (take-length c.args.self.now.pending.items)) c.in-Ok.ensures.appended,
)
