use Rattle.std.proofs.Common.{◌≡◌, ◌∙◌, ◌<◌, List, ap, get_or, length, subst, sym}
use Rattle.iv_readers.proofs.Lists.{AllByRecursion-get_or}
use Rattle.iv_store.specs.Store.{Store, frame_of}
use Rattle.iv_readers.specs.Readers.{RoleCircuit}
use Rattle.iv_store.specs.Turned.{WasRead}
use Rattle.iv_access.specs.Privileges.{select_from}
use Rattle.iv_machine.specs.State.{missing_for}
use Rattle.iv_store.proofs.CircuitFlags.{is_some-twice_not}
use Rattle.iv_readers.proofs.Held.{get_or-own_reader}
use Rattle.iv_store.proofs.store.Store.is_unreadable.Goals as goal

pub missing_for-requires-clause-below : goal.missing_for-requires-clause-below
missing_for-requires-clause-below c =
    let e = c.args.self.now in
    let i = c.args.reader.0 in
    let k = get_or-own_reader e.circuits i c.requires.reader in
    let b = c.rel-rel.ensures k.0 (subst (λ (ks : List RoleCircuit). k.0 ≡ get_or ks i k.0) (sym (ap (λ (v : Store). v.circuits) c.self.view_is)) k.1) in
    subst (λ r. r < length e.catalog) (sym b) (AllByRecursion-get_or (WasRead e) e.circuits i k.0 c.requires.circuits c.requires.reader k.1).known

pub returns : goal.returns
returns c = λ k k_at.
    let e = c.args.self.now in
    let here = subst (λ (ks : List RoleCircuit). k ≡ get_or ks c.args.reader.0 k) (sym (ap (λ (v : Store). v.circuits) c.self.view_is)) k_at in
    let a = c.role-role.ensures k here in
    let b = c.rel-rel.ensures k here in
    c.is_some.ensures ∙ is_some-twice_not select_from c.missing_for.result _ (c.missing_for.ensures ∙ (λ j. missing_for (frame_of e) (a j) (b j)))
