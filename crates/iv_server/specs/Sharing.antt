-- Who made the entries that wait for the journal.
use Rattle.std.specs.Prelude.{◌≡◌, ◌++◌, ◌∷◌, ℕ, ◌-◌, ◌==◌, List, [], MatchBool, drop, length, slice_get, string_bytes}
use Rattle.iv_rows.specs.Options.{if_some}
use Rattle.iv_audit.specs.declared.writing.Share.{Share}
use Rattle.iv_clients.specs.Clients.{client_at}
use Rattle.iv_records.specs.Journal.{journal_of}
use Rattle.iv_desk.specs.Front.{Front}

-- how many lines wait for the journal
abbrev pub waiting_lines : Front → ℕ
waiting_lines d = length (journal_of (drop d.gate.kept d.gate.entries))

-- who holds the token by which the client of a number came in: no text if that is not said
abbrev pub user_at : Front → ℕ → List ℕ
user_at d m = if_some (client_at d.gate.clients m) [] (λ c. c.user)

-- one more share: the lines up to this end, of this holder
pub record HasShare (end : ℕ) (holder : List ℕ) (old new : List Share) : Type 0 where
  pub share : Share
  pub added : new ≡ old ++ share ∷ []
  pub ends : share.end ≡ end
  pub held : string_bytes share.holder ≡ holder

-- the end of the last one
abbrev pub last_end : List Share → ℕ
last_end shares = if_some (slice_get shares (length shares - 1)) 0 (λ s. s.end)

-- the lines since the last share were made by this holder, if there are any
abbrev pub IsShared : (end : ℕ) (holder : List ℕ) (old new : List Share) → Type 0
IsShared end holder old new = MatchBool (end == last_end old) (new ≡ old) (HasShare end holder old new)
