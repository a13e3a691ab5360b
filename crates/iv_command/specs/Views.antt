-- What commands and lines of the code are to the machine.
use Rattle.std.specs.Prelude.{string_bytes, option_map}
use Rattle.iv_bind.specs.BoundTexts as texts
use Rattle.iv_machine.specs.Act as machine
use Rattle.iv_command.specs.declared.command.Command.{Command}
use Rattle.iv_command.specs.declared.command.Act.{Act}
use Rattle.iv_command.specs.declared.command.Act.TheVariants.{Begin, Finish, CreateRole, CreateTable, CreateView, Grant, Revoke, GrantRole, RevokeRole, RowSecurity, CreatePolicy, DropPolicy, Write, Subscribe, Unsubscribe}
use Rattle.iv_command.specs.declared.command.Reason.{Reason}
use Rattle.iv_command.specs.declared.command.Reason.TheVariants.{Reading, Binding}
use Rattle.iv_command.specs.declared.command.Refusal.{Refusal}
use Rattle.iv_command.specs.declared.command.Refusal.TheVariants.{NoSession, SessionInUse, UnknownRole, NameTaken, UnknownRelation, NotATable, BadRow, BadQuery, NotAdministrator, NotOwner, MissingPrivilege, NoPermissive, RestrictiveFailed, NoSuchRow, Limit, UnknownPolicy, UnknownSubscription, TooMany, MembershipLoop}
use Rattle.iv_command.specs.declared.command.Reply.{Reply}
use Rattle.iv_command.specs.declared.command.Reply.TheVariants as said
use Rattle.iv_command.specs.declared.command.Line.{Line}
use Rattle.iv_command.specs.declared.command.Line.TheVariants as line

abbrev pub reason_of : Reason → texts.Reason
reason_of (Reading why) = texts.Reading why
reason_of (Binding why) = texts.Binding why

abbrev pub act_of : Act → machine.Act
act_of (Begin role) = machine.begin (string_bytes role)
act_of Finish = machine.finish
act_of (CreateRole name) = machine.create_role (string_bytes name)
act_of (CreateTable name owner columns) = machine.create_table (string_bytes name) (string_bytes owner) columns.items
act_of (CreateView name owner query) = machine.create_view (string_bytes name) (string_bytes owner) (string_bytes query)
act_of (Grant rel privileges grantee) = machine.grant (string_bytes rel) privileges.items (option_map string_bytes grantee)
act_of (Revoke rel privileges grantee) = machine.revoke (string_bytes rel) privileges.items (option_map string_bytes grantee)
act_of (GrantRole role to) = machine.grant_role (string_bytes role) (string_bytes to)
act_of (RevokeRole role to) = machine.revoke_role (string_bytes role) (string_bytes to)
act_of (RowSecurity rel enable force) = machine.row_security (string_bytes rel) enable force
act_of (CreatePolicy policy) = machine.create_policy (policy)
act_of (DropPolicy rel name) = machine.drop_policy (string_bytes rel) (string_bytes name)
act_of (Write entries) = machine.write entries.items
act_of (Subscribe rel) = machine.subscribe (string_bytes rel)
act_of (Unsubscribe sub) = machine.unsubscribe sub

abbrev pub command_of : Command → machine.Command
command_of c = record { session = c.session; act = act_of c.act }

abbrev pub refusal_of : Refusal → machine.Refusal
refusal_of NoSession = machine.no_session
refusal_of SessionInUse = machine.session_in_use
refusal_of UnknownRole = machine.unknown_role
refusal_of NameTaken = machine.name_taken
refusal_of UnknownRelation = machine.unknown_relation
refusal_of NotATable = machine.not_a_table
refusal_of (BadRow n) = machine.bad_row n
refusal_of (BadQuery place why) = machine.bad_query place (reason_of why)
refusal_of NotAdministrator = machine.not_administrator
refusal_of (NotOwner rel) = machine.not_owner (string_bytes rel)
refusal_of (MissingPrivilege p rel) = machine.missing_privilege p (string_bytes rel)
refusal_of (NoPermissive rel check n) = machine.no_permissive (string_bytes rel) check n
refusal_of (RestrictiveFailed policy rel check n) = machine.restrictive_failed (string_bytes policy) (string_bytes rel) check n
refusal_of (NoSuchRow n) = machine.no_such_row n
refusal_of Limit = machine.limit
refusal_of UnknownPolicy = machine.unknown_policy
refusal_of UnknownSubscription = machine.unknown_subscription
refusal_of TooMany = machine.too_many
refusal_of MembershipLoop = machine.membership_loop

abbrev pub reply_of : Reply → machine.Reply
reply_of said.Ok = machine.done
reply_of (said.Subscribed k) = machine.subscribed k
reply_of (said.Refused r) = machine.refused (refusal_of r)

abbrev pub line_of : Line → machine.Line
line_of (line.Reply n r) = machine.reply n (reply_of r)
line_of (line.Change n k rows) = machine.change n k rows.value
line_of (line.Ended n k cause rows) = machine.ended n k cause rows
