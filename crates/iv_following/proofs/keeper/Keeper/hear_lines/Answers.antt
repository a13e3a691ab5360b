use Rattle.std.proofs.Common.{◌∙◌, refl}
use Rattle.std.proofs.lemmas.Result.{err_from_is_err_and}
use Rattle.iv_following.specs.Following.{none_yet}
use Rattle.iv_following.proofs.Failed.{breaks_here}
use Rattle.iv_following.proofs.Heeded.{heeds_on}
use Rattle.iv_following.proofs.keeper.Keeper.hear_lines.Goals as goal

pub lines-init : goal.lines-init
lines-init c = record { leads = λ d h. h; heeds = none_yet; same = refl }

pub lines-preserved : goal.lines-preserved
lines-preserved c = record {
  leads = λ d h. c.in_ok-hear_line.ensures.leads d (c.lines.invariant.leads d h);
  heeds = heeds_on c.args.means.now.log c.lines.means.log c.args.self.now.talk _ _ _ _ _ _ c.lines.invariant.same c.lines.invariant.heeds c.in_ok-hear_line.ensures.heard;
  same = c.in_ok-hear_line.ensures.same ∙ c.lines.invariant.same;
}

pub returns-then-not-branch-clause-heeds : goal.returns-then-not-branch-clause-heeds
returns-then-not-branch-clause-heeds c =
    heeds_on c.args.means.now.log c.lines.means.log c.args.self.now.talk _ _ _ _ _ _ c.lines.invariant.same c.lines.invariant.heeds c.in_ok-hear_line.ensures.heard

pub returns-in_err-hear_line-clause-breaks : goal.returns-in_err-hear_line-clause-breaks
returns-in_err-hear_line-clause-breaks c =
    let p = err_from_is_err_and c.from_residual.result c.from_residual.ensures.1 in
    rw (p.1, p.2)
    (breaks_here c.args.means.now.log c.lines.means.log c.args.self.now.talk c.lines.self.talk _ _ _ c.lines.self.told.out.items _ _ c.lines.invariant.same
    c.lines.invariant.heeds c.in_err-hear_line.ensures.fault)
