-- One meaning of requests: a client asks what viewd reads of the same object with a session in place of the id.
use Rattle.std.specs.Prelude.{◌≡◌, ◌++◌, ◌&&◌, ℕ, not, List, codes, bytes_eq, is_some, Option, Some, None, option_map, Result, Ok, Err, if◌then◌else◌}
use Rattle.std.specs.List.{list_all}
use Rattle.iv_machine.specs.Act.{Act, Command}
use Rattle.serde_json.specs.Data.{Data, object, Members, no_members, member, put}
use Rattle.serde_json.specs.Find.{get}
use Rattle.iv_request.specs.Forms.{Form, form_of, has}
use Rattle.iv_request.specs.Request.{act_for, command, request}
use Rattle.iv_request.specs.Values.{natural}
use Rattle.iv_message.specs.Message.{Why, asked, clients_form, is_good_id, passes}

abbrev pub without : List ℕ → Members → Members
without key no_members = no_members
without key (member k d ms) = if bytes_eq k key then without key ms else member k d (without key ms)

-- the object with session 1, and without an id
abbrev pub in_session : Data → Data
in_session (object ms) = object (put (codes "session") (natural 1) (without (codes "id") ms))
in_session d = d

-- what is asked, if it is no reason
abbrev pub act_in : Result Act Why → Option Act
act_in (Ok act) = Some act
act_in (Err why) = None

-- what viewd reads of the object in session 1, if its id is one, or not there, it names no session, and its word is one that
-- clients have
abbrev pub read_in_session : Data → Option Command
read_in_session d =
    if (is_good_id (get (codes "id") d) && not (has (codes "session") d)) && is_some (clients_form d) then request (in_session d) else None

-- a client asks what viewd reads there, and is told a reason exactly if nothing is read
abbrev pub OneMeaning : Type 0
OneMeaning = (d : Data) → option_map (command 1) (act_in (asked d)) ≡ read_in_session d

-- the values of a form's keys all pass exactly if they make an act
abbrev pub ValuesDecide : Type 0
ValuesDecide = (text : List ℕ) (f : Form) → form_of text ≡ Some f
    → (d : Data) → list_all (λ key. passes f.word key d) (f.required ++ f.optional) ≡ is_some (act_for f.word d)
