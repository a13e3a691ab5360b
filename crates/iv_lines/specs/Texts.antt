-- The texts of lines: compact JSON with keys in the order of their bytes, and a newline.
use Rattle.std.specs.Prelude.{ℕ, ℤ, true, List, [], ◌∷◌, ◌++◌, codes}
use Rattle.iv_rows.specs.Cell.{Cell}
use Rattle.iv_query.specs.declared.fault.Why.{Why}
use Rattle.iv_query.specs.declared.fault.Why.TheVariants as reading
use Rattle.iv_bind.specs.declared.fault.BindWhy.{BindWhy}
use Rattle.iv_bind.specs.declared.fault.BindWhy.TheVariants as binding
use Rattle.iv_bind.specs.BoundTexts.{Reason, Reading, Binding}
use Rattle.iv_access.specs.declared.policy.Check.{Check}
use Rattle.iv_access.specs.declared.policy.Check.TheVariants as check
use Rattle.iv_machine.specs.Act as machine
use Rattle.iv_machine.specs.Act.{Refusal, Reply, done, subscribed, refused, Line, reply, change, ended}
use Rattle.iv_machine.specs.declared.Cause.{Cause}
use Rattle.iv_machine.specs.declared.Cause.TheVariants as cause
use Rattle.serde_json.specs.Data.{Data, string, boolean, object, Members, member, no_members, put}
use Rattle.serde_json.specs.Written.{compact_text}
use Rattle.iv_command.specs.RowTexts.{rows_data}
use Rattle.iv_request.specs.Values.{natural, privilege_text}

abbrev pub check_text : Check → List ℕ
check_text check.Select = codes "select"
check_text check.Insert = codes "insert"
check_text check.UpdateOld = codes "update old"
check_text check.UpdateNew = codes "update new"
check_text check.Delete = codes "delete"

abbrev pub cause_text : Cause → List ℕ
cause_text cause.Privilege = codes "privilege"
cause_text cause.Limit = codes "limit"

-- why a text is not in the grammar
abbrev pub reading_text : Why → List ℕ
reading_text reading.Token = codes "token"
reading_text reading.Unexpected = codes "unexpected"
reading_text reading.TooDeep = codes "too deep"
reading_text reading.TooLong = codes "too long"

-- why a text does not go with the relations that are there
abbrev pub binding_text : BindWhy → List ℕ
binding_text binding.UnknownRelation = codes "unknown relation"
binding_text binding.DuplicateName = codes "duplicate name"
binding_text binding.UnknownColumn = codes "unknown column"
binding_text binding.AmbiguousColumn = codes "ambiguous column"
binding_text binding.KindMismatch = codes "kind mismatch"
binding_text binding.NotGrouped = codes "not grouped"
binding_text binding.TooManyColumns = codes "too many columns"
binding_text binding.ColumnsDiffer = codes "columns differ"
binding_text binding.TooManyNodes = codes "too many nodes"

abbrev pub reason_text : Reason → List ℕ
reason_text (Reading why) = reading_text why
reason_text (Binding why) = binding_text why

-- ---- replies, but for the session

-- the number of a refusal alone
abbrev pub plain_members : ℕ → Members
plain_members c = member (codes "error") (natural c) no_members

-- with the number of an entry, from 1
abbrev pub entry_refused : (c entry : ℕ) → Members
entry_refused c entry = member (codes "entry") (natural entry) (plain_members c)

abbrev pub refused_members : Refusal → Members
refused_members machine.no_session = plain_members 3
refused_members machine.session_in_use = plain_members 4
refused_members machine.unknown_role = plain_members 5
refused_members machine.name_taken = plain_members 6
refused_members machine.unknown_relation = plain_members 7
refused_members machine.not_a_table = plain_members 8
refused_members (machine.bad_row entry) = entry_refused 9 entry
refused_members (machine.bad_query place why) =
    member (codes "error") (natural 10)
    (member (codes "place") (natural place)
    (member (codes "why") (string (reason_text why)) no_members))
refused_members machine.not_administrator = plain_members 11
refused_members (machine.not_owner rel) = member (codes "error") (natural 12) (member (codes "on") (string rel) no_members)
refused_members (machine.missing_privilege p rel) =
    member (codes "error") (natural 13)
    (member (codes "on") (string rel)
    (member (codes "privilege") (string (privilege_text p)) no_members))
refused_members (machine.no_permissive rel test entry) =
    member (codes "check") (string (check_text test))
    (member (codes "entry") (natural entry)
    (member (codes "error") (natural 14)
    (member (codes "on") (string rel) no_members)))
refused_members (machine.restrictive_failed policy rel test entry) =
    member (codes "check") (string (check_text test))
    (member (codes "entry") (natural entry)
    (member (codes "error") (natural 15)
    (member (codes "on") (string rel)
    (member (codes "policy") (string policy) no_members))))
refused_members (machine.no_such_row entry) = entry_refused 16 entry
refused_members machine.limit = plain_members 17
refused_members machine.unknown_policy = plain_members 18
refused_members machine.unknown_subscription = plain_members 19
refused_members machine.too_many = plain_members 20
refused_members machine.membership_loop = plain_members 23

abbrev pub reply_members : Reply → Members
reply_members done = member (codes "ok") (boolean true) no_members
reply_members (subscribed k) = member (codes "ok") (boolean true) (member (codes "sub") (natural k) no_members)
reply_members (refused r) = refused_members r

-- the session comes in, in the order of keys
abbrev pub of_session : ℕ → Members → Data
of_session n ms = object (put (codes "session") (natural n) ms)

abbrev pub reply_data : ℕ → Reply → Data
reply_data n r = of_session n (reply_members r)

-- ---- changes

abbrev pub change_data : (n k : ℕ) → List (List Cell × ℤ) → Data
change_data n k es = object (member (codes "changes") (rows_data es) (member (codes "session") (natural n) (member (codes "sub") (natural k) no_members)))

abbrev pub ended_data : (n k : ℕ) → Cause → List (List Cell × ℤ) → Data
ended_data n k why es = object (
    member (codes "changes") (rows_data es)
    (member (codes "ended") (string (cause_text why))
    (member (codes "session") (natural n)
    (member (codes "sub") (natural k) no_members))))

abbrev pub line_data : Line → Data
line_data (reply n r) = reply_data n r
line_data (change n k es) = change_data n k es
line_data (ended n k why es) = ended_data n k why es

-- ---- texts

abbrev pub text_of : Data → List ℕ
text_of d = compact_text d ++ 10 ∷ []

abbrev pub line_text : Line → List ℕ
line_text l = text_of (line_data l)

-- what a line that is no request is answered
abbrev pub fault_data : ℕ → Data
fault_data n = object (member (codes "error") (natural n) no_members)

abbrev pub fault_text : ℕ → List ℕ
fault_text n = text_of (fault_data n)
