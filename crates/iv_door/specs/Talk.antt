-- A keeper's talk: how what it says is heard, line by line, however its bytes come.
use Rattle.std.specs.Prelude.{◌≡◌, ◌≢◌, ◌<◌, ◌≤◌, ℕ, ◌+◌, ◌==◌, ◌&&◌, not, Bool, true, false, if◌then◌else◌, List, [], ◌∷◌, ◌++◌, bytes_eq, length}
use Rattle.std.specs.Prelude.{nat_le, nat_lt, Option, None, Some}
use Rattle.std.specs.List.{list_any}
use Rattle.iv_rows.specs.Options.{if_some}
use Rattle.iv_records.specs.Journal.{position_text}
use Rattle.iv_door.specs.Said.{Log, Said, begins, goes_on, recalls, brings, ends, opens, shuts, leads, keeps, is_well, line_of}
use Rattle.iv_door.specs.Answers.{Fault, too_long, no_line, wrong_time, no_log, other_log, no_room}

-- bytes of a line without its newline, and lines and bytes of a step before its last line, at most
abbrev pub most_line : ℕ
most_line = 130816

abbrev pub most_lines : ℕ
most_lines = 1048576

abbrev pub most_bytes : ℕ
most_bytes = 268435456

-- the bytes that were not heard yet; how many lines were; the log that the gateway follows; whether the keeper has begun it, or gone on with it;
-- whether the gateway leads it; the texts of the step that is under way, and the bytes of their lines
pub record Talk : Type 0 where
  pub unread : List ℕ
  pub lines : ℕ
  pub log : Option Log
  pub follows : Bool
  pub leads : Bool
  pub texts : List (List ℕ)
  pub size : ℕ

-- what a line asks of the gateway; a step has its texts with it, of which the last one ends it
pub data Act : Type 0 where
  begun : Act
  gone_on : Act
  recalled : Act
  brought : Act
  ended : (from to : ℕ) (texts : List (List ℕ)) → Act
  opened : Act
  shut : Act
  led : Act
  kept : (position : ℕ) → Act

pub data Heard : Type 0 where
  nothing : Heard
  acts : Act → Heard
  fails : Fault → Heard

-- nothing was said
abbrev pub at_start : Option Log → Talk
at_start log = record { unread = []; lines = 0; log = log; follows = false; leads = false; texts = []; size = 0 }

-- its step is taken: another one is under way
abbrev pub stepped : Talk → Talk
stepped t = record t { texts = []; size = 0 }

-- ---- one thing that is said

abbrev pub is_same : Log → Log → Bool
is_same a b = bytes_eq a.name b.name && bytes_eq a.epoch b.epoch

-- a step has room for the line of a text
abbrev pub has_room : Talk → List ℕ → Bool
has_room t text = nat_lt (length t.texts) most_lines && nat_le (t.size + (length text + 2)) most_bytes

abbrev pub with_text : List ℕ → Talk → Talk
with_text text t = record t { texts = t.texts ++ text ∷ []; size = t.size + (length text + 2) }

-- it is said before the log is followed
abbrev pub before : Talk → Heard × Talk → Heard × Talk
before t x = if t.follows then (fails (wrong_time t.lines), t) else x

-- it is said once the log is followed
abbrev pub behind : Talk → Heard × Talk → Heard × Talk
behind t x = if t.follows then x else (fails (wrong_time t.lines), t)

-- it is of steps that the keeper brings, which it does until the gateway leads
abbrev pub bringing : Talk → Heard × Talk → Heard × Talk
bringing t x = if t.follows && not t.leads then x else (fails (wrong_time t.lines), t)

-- it is of steps that the gateway decides
abbrev pub leading : Talk → Heard × Talk → Heard × Talk
leading t x = if t.leads then x else (fails (wrong_time t.lines), t)

-- no step is under way
abbrev pub is_between : Talk → Bool
is_between t = length t.texts == 0

abbrev pub says : Talk → Said → Heard × Talk
says t (begins l) = before t (if_some t.log (acts begun, record t { log = Some l; follows = true }) (λ k. (fails (other_log k), t)))
says t (goes_on l) = before t (
    if_some t.log (fails no_log, t) (λ k. if is_same k l then (acts gone_on, record t { follows = true }) else (fails (other_log k), t)))
says t recalls = before t (if_some t.log (fails no_log, t) (λ k. (acts recalled, t)))
says t (brings text) = bringing t (if has_room t text then (acts brought, with_text text t) else (fails no_room, t))
says t (ends from to) = bringing t (acts (ended from to (t.texts ++ position_text to ∷ [])), stepped t)
says t opens = behind t (acts opened, t)
says t shuts = behind t (acts shut, t)
says t leads = bringing t (if is_between t then (acts led, record t { leads = true }) else (fails (wrong_time t.lines), t))
says t (keeps position) = leading t (acts (kept position), t)

-- ---- lines

-- what is said by a line, if that is one
abbrev pub IsSaidBy : List ℕ → Option Said → Type 0
IsSaidBy line (Some s) = (is_well s ≡ true) × (line_of s ≡ line)
IsSaidBy line None = (s : Said) → is_well s ≡ true → line_of s ≢ line

-- a line is heard
pub data HearsLine (t : Talk) (line : List ℕ) : Heard × Talk → Type 0 where
  is_long : most_line < length line → HearsLine t line (fails (too_long t.lines), t)
  is_said : (s : Said) → length line ≤ most_line → IsSaidBy line (Some s) → HearsLine t line (says t s)
  is_none : length line ≤ most_line → IsSaidBy line None → HearsLine t line (fails (no_line t.lines), t)

abbrev pub has_newline : List ℕ → Bool
has_newline bytes = list_any (λ b. b == 10) bytes

-- the line before the first newline of what is unread is heard; if none is there, nothing is, unless it can only be too long
pub data Hears (t : Talk) : Heard × Talk → Type 0 where
  a_line : (line rest : List ℕ) (x : Heard × Talk) → t.unread ≡ line ++ 10 ∷ rest → has_newline line ≡ false
      → HearsLine (record t { unread = rest; lines = t.lines + 1 }) line x → Hears t x
  not_yet : has_newline t.unread ≡ false → length t.unread ≤ most_line → Hears t (nothing, t)
  no_end : has_newline t.unread ≡ false → most_line < length t.unread → Hears t (fails (too_long (t.lines + 1)), t)
