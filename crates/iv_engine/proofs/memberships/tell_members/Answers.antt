use Rattle.std.proofs.Common.{◌∙◌, Bool, List, ap, length, subst, sym}
use Rattle.std.proofs.lemmas.Result.{IfOk-weaker}
use Rattle.iv_readers.specs.Flags.{differing}
use Rattle.iv_store.specs.Concerned.{reaching}
use Rattle.iv_store.specs.Turned.{AreReadersTold, AreWaiting}
use Rattle.iv_engine.proofs.MembershipEffects.{length-reaching}
use Rattle.iv_engine.proofs.memberships.tell_members.Goals as goal

pub differing-requires : goal.differing-requires
differing-requires c =
    c.requires.long ∙ sym (length-reaching c.args.store.now c.args.group) ∙ sym (ap (λ bs. length bs) (c.deref.ensures.value ∙ c.in_ok-after.ensures))

pub tell_readers-requires-clause-waiting : goal.tell_readers-requires-clause-waiting
tell_readers-requires-clause-waiting c =
    let flags = c.deref-2.ensures.value ∙ c.in_ok-concerned.ensures ∙ ap (differing c.args.before.now) (c.deref.ensures.value ∙ c.in_ok-after.ensures) in
    subst (λ (bs : List Bool). AreWaiting c.args.store.now bs) (sym flags) c.requires.waiting

pub returns : goal.returns
returns c =
    let e = c.args.store.now in
    let new = c.tell_readers.new.self in
    let flags = c.deref-2.ensures.value ∙ c.in_ok-concerned.ensures ∙ ap (differing c.args.before.now) (c.deref.ensures.value ∙ c.in_ok-after.ensures) in
    IfOk-weaker c.tell_readers.result (λ a. AreReadersTold e c.deref-2.result.now a new) (λ a. AreReadersTold e (differing c.args.before.now (reaching e c.args.group)) a new)
    (λ a told. subst (λ (bs : List Bool). AreReadersTold e bs a new) flags told) c.tell_readers.ensures
