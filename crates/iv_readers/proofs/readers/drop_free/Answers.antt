use Rattle.std.proofs.Common.{◌∙◌, arith}
use Rattle.iv_readers.proofs.Left.{AreLeftTo-AreLeftBelow, AreLeftBelow-next, AreLeftBelow-none}
use Rattle.iv_readers.proofs.readers.drop_free.Goals as goal

pub loop-at-init : goal.loop-at-init
loop-at-init c = λ rs same. AreLeftBelow-none rs c.args.held.now

pub keep_read-requires : goal.keep_read-requires
keep_read-requires c =
    let low = c.loop-at-test.true in
    let long = c.loop-at.auto.held in
    let alike = c.requires in
    omega (arith, low, long, alike)

pub loop-at-preserved : goal.loop-at-preserved
loop-at-preserved c = λ rs same.
    let i = c.loop-at.at in
    AreLeftBelow-next rs c.args.held.now c.loop-at.held c.keep_read.new.held i (c.loop-at.invariant rs same) (λ h. c.keep_read.ensures.read (same i ∙ h)) (λ h. c.keep_read.ensures.gone (same i ∙ h))
    c.keep_read.ensures.others

pub returns : goal.returns
returns c = λ rs same.
    let long = c.loop-at.auto.held in
    let end = c.loop-at-test.false in
    let alike = c.requires in
    AreLeftTo-AreLeftBelow rs c.args.held.now c.loop-at.held c.loop-at.at (omega (arith, long, end, alike)) (c.loop-at.invariant rs same)
