use Rattle.std.proofs.Common.{◌≡◌, ◌++◌, ◌-◌, ap, ◌∙◌, replicate, arith}
use Rattle.std.proofs.lemmas.List.{take_all}
use Rattle.iv_access.specs.Grants.{is_flagged}
use Rattle.iv_access.proofs.GrantFlags.{FlagsStay-append}
use Rattle.iv_access.proofs.grants.grow.Goals as goal

pub returns-in_ok-resize-clause-flags : goal.returns-in_ok-resize-clause-flags
returns-in_ok-resize-clause-flags c =
    let old = c.args.flags.now.items in
    let more = replicate (c.args.count - c.args.flags.now.len) c.new.result in
    let short = c.if-len-count.true in
    let grown : c.resize.new.self.items ≡ old ++ more = c.in_ok-resize.ensures.items ∙ ap (λ xs. xs ++ more) (take_all c.args.count old (omega (arith, short))) in λ g.
    ap (λ rs. is_flagged rs g) grown ∙ FlagsStay-append old (c.args.count - c.args.flags.now.len) c.new.result c.new.ensures g
