use Rattle.iv_gate.proofs.laws.gateways_hold_always.Goals as goal

pub returns : goal.returns
returns c = λ cap g r. (
  record {
    views = c.clients_see_their_views.ensures.views cap g r;
    over = c.clients_see_their_views.ensures.over cap g r;
    closed = c.closed_numbers_follow_nothing.ensures cap g r;
    answered = λ m k x. (c.clients_are_answered.ensures cap g m k r x, c.tokens_open_roles.ensures.acts cap g m k r x);
    comes = c.tokens_open_roles.ensures.comes cap g r;
    sent = c.what_is_sent_is_on_disk.ensures cap g r;
    back = c.the_journal_leads_back.ensures.back cap g r;
    safe = c.the_journal_leads_back.ensures.safe cap g r;
    bounded = c.clients_are_bounded.ensures.bounded cap g r;
    knows = c.sessions_and_feeds_are_the_machines.ensures cap g r;
    once = c.names_are_once.ensures cap g r;
    spent = c.refusals_are_few.ensures cap g r;
    shape = c.the_shape_is_told.ensures.told cap g r;
    makes = c.the_shape_is_told.ensures.makes cap g r;
  },
  λ e w. record {
    rests = c.events_leave_their_marks.ensures.rests g e;
    marks = c.events_leave_their_marks.ensures.marks g e w;
    replied = c.messages_are_replied.ensures cap g e r;
    touched = c.events_touch_their_clients.ensures g e;
    places = c.clients_are_bounded.ensures.places g e;
    last = c.clients_are_bounded.ensures.last cap g e r;
    changes = c.news_are_of_what_is_followed.ensures.changes cap g e r;
    told = c.grants_are_told.ensures.exact cap g e r;
    settles = c.events_settle_what_they_tell.ensures cap g e r;
    shows = c.told_text_shows_its_entries.ensures g e;
    begins = c.sessions_are_begun_by_need.ensures g e;
  },
)
