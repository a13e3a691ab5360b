-- What is read of a journal.
use Rattle.std.proofs.Common.{◌≡◌, ℕ, true, List, [], ◌∷◌, ◌++◌, append_assoc, Option, None, option_map, take, ap, ◌∙◌, sym, subst}
use Rattle.std.proofs.Math.Seq.{take-append_seam}
use Rattle.iv_journal.specs.Journal.{Line, bytes_of, digest_behind, journal_of, no_digest}
use Rattle.iv_journal.specs.Reading.{IsReading, Reading}
use Rattle.iv_journal.specs.Laws.{GoesOn, IsTold}
use Rattle.iv_journal.specs.Ends.{AreEnded}
use Rattle.iv_audit.specs.Reading.{IsAudit, epoch_of, given_in, is_audit}
use Rattle.iv_audit.specs.declared.reading.Audit.{Audit}
use Rattle.iv_audit.proofs.Bytes.{AllText}

first_texts : (ls ms : List Line) → AllText (ls ++ ms) → AllText ls
first_texts [] ms a = tt
first_texts (l ∷ ls) ms a = (a.0, first_texts ls ms a.1)

pub IsAudit-IsReading : ((bytes : List ℕ) (r : Reading) → IsReading bytes r → IsTold bytes r) → ((ls ms : List Line) → GoesOn ls ms)
    → (bytes : List ℕ) (ls seen made told_of : List Line) (fault : Option ℕ) (a : Audit) → IsReading bytes (record { lines = ls; fault = fault }) → fault ≡ None
    → seen ≡ ls → true ≡ is_audit seen → AreEnded ls a.end → made ≡ ls → a.lines.items ≡ given_in made → told_of ≡ ls
    → option_map (λ e. e.now) a.epoch ≡ epoch_of told_of → IsAudit bytes a
IsAudit-IsReading told on bytes ls seen made told_of fault a r f s i e m b k h =
    let t = told bytes (record { lines = ls; fault = fault }) r in
    let more = bytes_of (digest_behind no_digest ls) t.parts in
    let all : bytes ≡ journal_of ls ++ (bytes_of (digest_behind no_digest ls) t.parts ++ t.rest) =
    t.all ∙ (ap (λ z. z ++ t.rest) (on ls t.parts).bytes ∙ append_assoc (journal_of ls) (bytes_of (digest_behind no_digest ls) t.parts) t.rest) in
    record {
      lines = ls;
      reading = subst (λ (z : Option ℕ). IsReading bytes (record { lines = ls; fault = z })) f r;
      form = sym (i ∙ ap is_audit s);
      ended = e;
      texts = first_texts ls t.parts t.texts;
      front = (λ j. take (e.length j) (all j)) ∙ take-append_seam (journal_of ls) (bytes_of (digest_behind no_digest ls) t.parts ++ t.rest);
      given = b ∙ ap given_in m;
      epoch = h ∙ ap epoch_of k;
    }
