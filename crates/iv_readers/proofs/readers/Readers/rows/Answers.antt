use Rattle.std.proofs.Common.{◌≡◌, ◌∙◌, false, List, Option, ap, get_or, subst}
use Rattle.std.proofs.lemmas.Result.{IfOk-weaker}
use Rattle.iv_circuit.specs.Circuits.{Running}
use Rattle.iv_circuit.specs.Nodes.{total_of}
use Rattle.iv_readers.specs.Held.{Reading, held_at}
use Rattle.iv_readers.specs.Readers.{RoleCircuit}
use Rattle.iv_readers.specs.Rows.{AreInOrder, shared_rows}
use Rattle.iv_readers.proofs.Held.{lt-read_from, read_from-get_or}
use Rattle.iv_readers.proofs.readers.Readers.rows.Goals as goal

pub returns-clause-rows : goal.returns-clause-rows
returns-clause-rows c =
    let hs = c.self.inside.held.items in
    let rs = c.self.inside.readers.items in
    let ks = c.args.self.now in
    let at = c.behind-self.inside.at.0 in
    let here = ap (λ (xs : List (Option Running)). held_at xs at) c.deref_mut.ensures.value ∙ ap (λ (x : Reading). held_at hs x.at) c.behind-self.view_is in
    IfOk-weaker c.rows_at.result (λ rows. AreInOrder (total_of (held_at c.deref_mut.result.now at).node) false (shared_rows rows))
    (λ rows. (k : RoleCircuit) → k ≡ get_or ks c.args.reader.0 k → AreInOrder (total_of k.circuit.node) false (shared_rows rows))
    (λ rows order k k_at. subst (λ (x : Running). AreInOrder (total_of x.node) false (shared_rows rows))
    (here ∙ ap (λ (x : RoleCircuit). x.circuit) (read_from-get_or hs rs ks c.self.view_is c.args.reader.0 c.index.result.now
    (lt-read_from hs rs ks c.self.view_is c.args.reader.0 c.requires) c.index.ensures k k_at)) order) c.rows_at.ensures.rows
