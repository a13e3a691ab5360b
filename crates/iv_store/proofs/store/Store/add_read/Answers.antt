use Rattle.std.proofs.Common.{◌≡◌, ◌∙◌, ◌||◌, ap, sym}
use Rattle.std.proofs.lemmas.Result.{on_ok_weaker}
use Rattle.std.specs.Prelude.{option_map}
use Rattle.iv_machine.specs.State.{session_of}
use Rattle.iv_store.specs.Reading.{reads}
use Rattle.iv_store.specs.Store.{Store}
use Rattle.iv_store.proofs.ReadersFound.{or_false, through-None, through-Some}
use Rattle.iv_store.proofs.store.Store.add_read.Goals as goal

pub returns-in-Some : goal.returns-in-Some
returns-in-Some c =
    let e = c.args.self.now in
    let s = c.args.subscription.now in
    let role = c.in-Some.role.0 in
    let session = ap (λ x. x.session) c.subscription.view_is in
    let rel : c.subscription.inside.rel.0 ≡ s.rel = ap (λ x. x.rel) c.subscription.view_is in
    let acts = c.in-Some.ensures ∙ ap (λ (v : Store). option_map (λ x. x.role) (session_of v.sessions c.subscription.inside.session)) c.self.view_is ∙ ap (λ n. option_map (λ x. x.role) (session_of e.sessions n)) session in
    on_ok_weaker c.add.result (λ more a b. more a b ∙ ap (λ t. reads c.args.read.now a b || t) (through-Some e s role c.subscription.inside.rel.0 a b rel acts)) c.add.ensures

pub returns-in-None : goal.returns-in-None
returns-in-None c = λ a b.
    let e = c.args.self.now in
    let s = c.args.subscription.now in
    let session = ap (λ x. x.session) c.subscription.view_is in
    let acts = c.in-None.ensures ∙ ap (λ (v : Store). option_map (λ x. x.role) (session_of v.sessions c.subscription.inside.session)) c.self.view_is ∙ ap (λ n. option_map (λ x. x.role) (session_of e.sessions n)) session in
    sym (ap (λ t. reads c.args.read.now a b || t) (through-None e s a b acts) ∙ or_false (reads c.args.read.now a b))
