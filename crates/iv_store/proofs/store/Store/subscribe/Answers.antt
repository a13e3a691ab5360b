use Rattle.std.proofs.Common.{◌≡◌, ◌+◌, Err, Option, ap, refl, subst, sym}
use Rattle.std.specs.Prelude.{option_map, string_bytes}
use Rattle.iv_access.specs.Rights.{Name}
use Rattle.iv_machine.specs.Act.{subscribe}
use Rattle.iv_machine.specs.State.{Subscription}
use Rattle.iv_database.proofs.PolicyTests.{IsErrAnd-gives}
use Rattle.iv_command.specs.declared.stop.Stop.{Stop}
use Rattle.iv_readers.specs.declared.ids.ReaderId.{ReaderId}
use Rattle.iv_store.specs.Answering.{IsStep}
use Rattle.iv_store.specs.Store.{Store}
use Rattle.iv_store.specs.Openable.{IsReaderFor, IsOpenable, MayOpen}
use Rattle.iv_command.specs.declared.command.Reply.TheVariants.{Subscribed}
use Rattle.iv_store.proofs.NewSubscription.{asked, beyond_step, IsStep-MayOpen, opened_step}
use Rattle.iv_store.proofs.store.Store.subscribe.Goals as goal

pub returns-in_err-rel : goal.returns-in_err-rel
returns-in_err-rel c =
    let e = c.args.self.now in
    let n = c.args.session in
    let act = subscribe (string_bytes c.args.rel) in
    IsErrAnd-gives c.from_residual.result _ (λ r. IsStep e n act r e) c.from_residual.ensures.1
    (λ stop is. subst (λ (s : Stop). IsStep e n act (Err s) e) (sym is)
    (IsStep-MayOpen e n (string_bytes c.args.rel) c.in_err-rel.field-0.0 (subst (λ (name : Name). MayOpen e n name (Err c.in_err-rel.field-0.0)) c.as_str.ensures.value c.in_err-rel.ensures)))

pub returns-in_default : goal.returns-in_default
returns-in_default c =
    let e = c.args.self.now in
    let n = c.args.session in
    let k = c.in_ok-rel.rel.0 in
    let name = string_bytes c.args.rel in
    let role = c.role_of-role.result.0 in
    let mid = c.reader_for.new.self in
    let x = subst (λ (rel : Name). IsOpenable e n rel k) c.as_str.ensures.value c.in_ok-rel.ensures in
    let at = subst (λ (o : Option ReaderId). IsReaderFor e role k (option_map (λ r. r.0) o) mid) c.in_default.is c.in_ok-reader.ensures in
    beyond_step e n k name c.requires x role c.role_of-role.ensures mid at.0 at.1

pub returns : goal.returns
returns c =
    let e = c.args.self.now in
    let n = c.args.session in
    let k = c.in_ok-rel.rel.0 in
    let name = string_bytes c.args.rel in
    let role = c.role_of-role.result.0 in
    let mid = c.reader_for.new.self in
    let last = c.self.inside.last in
    let x = subst (λ (rel : Name). IsOpenable e n rel k) c.as_str.ensures.value c.in_ok-rel.ensures in
    let got = subst (λ (o : Option ReaderId). IsReaderFor e role k (option_map (λ r. r.0) o) mid) c.in-Some.is c.in_ok-reader.ensures in
    let s : Subscription = record { session = n; number = last + 1; rel = k } in
    let same : s ≡ asked e n k = ap (λ (v : Store). asked v n k) c.self.view_is in
    opened_step e n k name c.requires x role c.role_of-role.ensures c.in-Some.reader.0 mid got s same c.in_ok-changes.changes
    c.in_ok-changes.ensures.lines c.open.new.self c.in_ok-changes.ensures.state (Subscribed (last + 1)) refl
