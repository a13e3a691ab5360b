-- What a client says: one JSON object, a request as viewd has it but for the session, with an `id` if it likes.
use Rattle.std.specs.Prelude.{◌≡◌, ℕ, suc, ◌==◌, ◌++◌, Bool, true, false, not, List, [], ◌∷◌, map, codes, length, nat_le, nat_lt, bytes_eq, find, is_some, Option, Some, None, option_map, option_and_then, unwrap_or, Result, Ok, Err, if◌then◌else◌}
use Rattle.iv_access.specs.declared.policy.PolicyCommand.{PolicyCommand}
use Rattle.iv_machine.specs.Act.{Act}
use Rattle.iv_machine.specs.Parts.{has_texts}
use Rattle.iv_machine.specs.Stored.{IsGiven}
use Rattle.iv_machine.specs.Well.{is_well_act}
use Rattle.serde_json.specs.Data.{Data, null, boolean, number, string, array, object, Items, no_items, item, Members, no_members, member}
use Rattle.serde_json.specs.Find.{get, as_array, as_object, as_integer}
use Rattle.iv_command.specs.RowTexts.{whole}
use Rattle.iv_request.specs.Forms.{Form, form_of, has, is_among}
use Rattle.iv_request.specs.Reading.{value_of}
use Rattle.iv_request.specs.Request.{passing, text_at, name_at, bool_at, positive_of, columns_at, privileges_at, grantee_at, group_at, restrictive_at, policy_command_at, grantees_at, text_if_at, entry_of, entries_at, act_for, command, is_session}
use Rattle.iv_request.specs.declared.forms.Word.{Word}
use Rattle.iv_request.specs.declared.forms.Word.TheVariants.{Begin, Finish, CreateTable, CreateView, Grant, Revoke, GrantRole, RevokeRole, RowSecurity, CreatePolicy, Write, Unsubscribe}

-- why an object is no request, with the key; a value that is wrong at `entries` has the number of its first entry that is no
-- entry, from 1, if there is one
pub data Why : Type 0 where
  missing : (key : List ℕ) → Why
  unknown : (key : List ℕ) → Why
  wrong : (key : List ℕ) → (entry : Option ℕ) → Why

-- refusal 1: no JSON; refusal 22: more than 65,536 bytes; refusal 2: JSON and no object; refusal 2 with its reason; a request
pub data Message : Type 0 where
  no_json : Message
  too_long : Message
  no_object : Message
  no_request : (id : Option Data) → Why → Message
  request : (id : Option Data) → Act → Message

-- ---- the text

-- a newline is a blank, so a message is one line
abbrev pub on_one_line : List ℕ → List ℕ
on_one_line text = map (λ b. if b == 10 then 32 else b) text

abbrev pub most_bytes : ℕ
most_bytes = 65536

-- ---- the id

-- the id that a value is: a whole number of 64 bits, or a text of at most 64 bytes
abbrev pub id_in : Data → Option Data
id_in null = None
id_in (boolean b) = None
id_in (number n) = option_map whole (as_integer n)
id_in (string s) = if nat_le (length s) 64 then Some (string s) else None
id_in (array ds) = None
id_in (object ms) = None

-- what is given back in the reply: nothing if no id is there, or the value is none
abbrev pub id_of : Data → Option Data
id_of d = option_and_then id_in (get (codes "id") d)

-- ---- the form

-- the gateway itself begins and finishes sessions
abbrev pub is_for_clients : Word → Bool
is_for_clients Begin = false
is_for_clients Finish = false
is_for_clients w = true

abbrev pub clients_form : Data → Option Form
clients_form d = option_and_then (passing (λ f. is_for_clients f.word)) (option_and_then form_of (text_at (codes "do") d))

-- the keys that a message of the form may have; the gateway chooses the session, so a message names none
abbrev pub keys_of : Form → List (List ℕ)
keys_of f = codes "do" ∷ codes "id" ∷ (f.required ++ f.optional)

-- ---- the values: the table of what is at each key, over the parts of requests

-- the command of a policy asks for `using`, or it may have it
abbrev pub using_fits : PolicyCommand → Option (List ℕ) → Bool
using_fits command using = if has_texts command using None then true else has_texts command using (Some [])

abbrev pub check_fits : PolicyCommand → Option (List ℕ) → Bool
check_fits command check = if has_texts command None check then true else has_texts command (Some []) check

-- a text that may be left out goes with the command; if the command is wrong itself, any text does
abbrev pub goes_with : (PolicyCommand → Option (List ℕ) → Bool) → Option PolicyCommand → Option (Option (List ℕ)) → Bool
goes_with fits command None = false
goes_with fits None (Some text) = true
goes_with fits (Some command) (Some text) = fits command text

abbrev pub granting_passes : List ℕ → Data → Bool
granting_passes key d =
    if bytes_eq key (codes "privileges") then is_some (privileges_at d)
    else if bytes_eq key (codes "to") then is_some (grantee_at d)
    else is_some (name_at key d)

abbrev pub membership_passes : List ℕ → Data → Bool
membership_passes key d = if bytes_eq key (codes "role") then is_some (group_at key d) else is_some (name_at key d)

abbrev pub policy_passes : List ℕ → Data → Bool
policy_passes key d =
    if bytes_eq key (codes "restrictive") then is_some (restrictive_at d)
    else if bytes_eq key (codes "command") then is_some (policy_command_at d)
    else if bytes_eq key (codes "to") then is_some (grantees_at d)
    else if bytes_eq key (codes "using") then goes_with using_fits (policy_command_at d) (text_if_at key d)
    else if bytes_eq key (codes "check") then goes_with check_fits (policy_command_at d) (text_if_at key d)
    else is_some (name_at key d)

-- what is at a key of the form, or that nothing does, is as a request of this word has it
abbrev pub passes : Word → List ℕ → Data → Bool
passes CreateTable key d = if bytes_eq key (codes "columns") then is_some (columns_at d) else is_some (name_at key d)
passes CreateView key d = if bytes_eq key (codes "query") then is_some (text_at key d) else is_some (name_at key d)
passes Grant key d = granting_passes key d
passes Revoke key d = granting_passes key d
passes GrantRole key d = membership_passes key d
passes RevokeRole key d = membership_passes key d
passes RowSecurity key d = if bytes_eq key (codes "on") then is_some (name_at key d) else is_some (bool_at key d)
passes CreatePolicy key d = policy_passes key d
passes Write key d = is_some (entries_at d)
passes Unsubscribe key d = is_some (option_and_then positive_of (get key d))
passes w key d = is_some (name_at key d)

-- ---- why: the first of these reasons, in this order

-- `do` is not there, or is no word of a client's request
abbrev pub do_fault : Data → Why
do_fault d = if has (codes "do") d then wrong (codes "do") None else missing (codes "do")

abbrev pub is_good_id : Option Data → Bool
is_good_id None = true
is_good_id (Some d) = is_some (id_in d)

-- there is an id, and it is none
abbrev pub id_fault : Data → Option Why
id_fault d = if is_good_id (get (codes "id") d) then None else Some (wrong (codes "id") None)

-- a key that the form requires is not there, in the order of the form
abbrev pub missing_in : Form → Data → Option Why
missing_in f d = option_map missing (find (λ key. not (has key d)) f.required)

-- the first key that fails, in the order of their bytes
abbrev pub first_failing : (List ℕ → Bool) → Members → Option (List ℕ)
first_failing test no_members = None
first_failing test (member key d ms) = if test key then first_failing test ms else Some key

-- a key that is none of the form
abbrev pub unknown_key : Form → Data → Option (List ℕ)
unknown_key f d = option_and_then (first_failing (is_among (keys_of f))) (as_object d)

abbrev pub unknown_in : Form → Data → Option Why
unknown_in f d = option_map unknown (unknown_key f d)

-- the number of the first item that is no entry, if the first item has number n
abbrev pub first_wrong : ℕ → Items → Option ℕ
first_wrong n no_items = None
first_wrong n (item d ds) = if is_some (entry_of d) then first_wrong (suc n) ds else Some n

abbrev pub wrong_entry : List ℕ → Data → Option ℕ
wrong_entry key d = if bytes_eq key (codes "entries") then option_and_then (first_wrong 1) (option_and_then as_array (get key d)) else None

-- a value fails, in the order of the form; a law says that one does exactly if there is no act
abbrev pub wrong_key : Form → Data → List ℕ
wrong_key f d = unwrap_or (find (λ key. not (passes f.word key d)) (f.required ++ f.optional)) (codes "do")

abbrev pub wrong_in : Form → Data → Why
wrong_in f d = wrong (wrong_key f d) (wrong_entry (wrong_key f d) d)

-- ---- the message

abbrev pub first_of : Option Why → Option Why → Option Why
first_of None more = more
first_of (Some why) more = Some why

-- why the keys are not those of the form
abbrev pub keys_fault : Form → Data → Option Why
keys_fault f d = first_of (id_fault d) (first_of (missing_in f d) (unknown_in f d))

abbrev pub by_act : Form → Data → Option Act → Result Act Why
by_act f d None = Err (wrong_in f d)
by_act f d (Some act) = Ok act

abbrev pub by_keys : Form → Data → Option Why → Result Act Why
by_keys f d None = by_act f d (act_for f.word d)
by_keys f d (Some why) = Err why

abbrev pub by_form : Data → Option Form → Result Act Why
by_form d None = Err (do_fault d)
by_form d (Some f) = by_keys f d (keys_fault f d)

-- what an object asks, or why it is no request
abbrev pub asked : Data → Result Act Why
asked d = by_form d (clients_form d)

abbrev pub with_its_id : Option Data → Result Act Why → Message
with_its_id id (Ok act) = request id act
with_its_id id (Err why) = no_request id why

abbrev pub message_of_value : Option Data → Message
message_of_value None = no_json
message_of_value (Some d) = if is_some (as_object d) then with_its_id (id_of d) (asked d) else no_object

abbrev pub message_of : List ℕ → Message
message_of text = if nat_lt most_bytes (length text) then too_long else message_of_value (value_of (on_one_line text))

-- what is asked is what the machine may be given
abbrev pub is_well_message : Message → Bool
is_well_message no_json = true
is_well_message too_long = true
is_well_message no_object = true
is_well_message (no_request id why) = true
is_well_message (request id act) = is_well_act act

-- the request of a message, if it is one
abbrev pub act_said : Message → Option Act
act_said (request id act) = Some act
act_said m = None

-- in each session it is a command that a line may give
abbrev pub IsGivenAct : Act → Type 0
IsGivenAct act = (n : ℕ) → is_session n ≡ true → IsGiven (command n act)
