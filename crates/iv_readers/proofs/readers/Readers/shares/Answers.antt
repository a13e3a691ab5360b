use Rattle.std.proofs.Common.{◌∙◌, ap, sym}
use Rattle.iv_readers.specs.Held.{Reading}
use Rattle.iv_readers.proofs.Held.{lt-read_from, read_from-get_or, same_number}
use Rattle.iv_readers.proofs.ReaderMoves.{circuit-read_from}
use Rattle.iv_readers.proofs.readers.Readers.shares.Goals as goal

pub returns : goal.returns
returns c = λ h k n k_at n_at.
    let hs = c.self.inside.held.items in
    let rs = c.self.inside.readers.items in
    let ks = c.args.self.now in
    let view = c.self.view_is in
    let r = c.index.result.now in
    let q = c.index-2.result.now in
    circuit-read_from hs r q k n (read_from-get_or hs rs ks view c.args.reader.0 r
    (lt-read_from hs rs ks view c.args.reader.0 c.requires.reader) c.index.ensures k k_at)
    (read_from-get_or hs rs ks view c.args.other.0 q (lt-read_from hs rs ks view c.args.other.0 c.requires.other) c.index-2.ensures n n_at)
    (sym (ap (λ (x : Reading). x.at) c.behind-self-2.view_is) ∙ same_number c.behind-self-2.inside.at.0 c.behind-self.inside.at.0 h ∙ ap (λ (x : Reading). x.at) c.behind-self.view_is)
