-- Sessions, and what a line does in one.
use Rattle.std.specs.Prelude.{◌≡◌, ◌≢◌, ℕ, List, [], Some, None, Ok, Err, Option, Result, OnErr, ℤ}
use Rattle.std.specs.Option.{option_or}
use Rattle.std.specs.Result.{result_ok}
use Rattle.std.specs.Borrow.{Bor}
use Rattle.hex.specs.Hex.{decode_of}
use Rattle.recording.specs.declared.makes.Make.{Make}
use Rattle.recording.specs.declared.interface.Member.{Member}
use Rattle.recording.specs.declared.refusal.Refusal.{Refusal}
use Rattle.recording.specs.Makes.{Recorded}
use Rattle.timeline.specs.declared.target.Target.{Target}
use Rattle.timeline.specs.Targets.{targets}
use Rattle.timeline.specs.Timelines.{Puts, Amends, Strikes}
use Rattle.response.specs.declared.base.BaseWindow.{BaseWindow}
use Rattle.response.specs.declared.service.Service.{Service}
use Rattle.response.specs.declared.settings.Proposal.{Proposal}
use Rattle.response.specs.declared.settings.Settings.{Settings}
use Rattle.response.specs.Limits.{IsBase, Granted}
use Rattle.response.specs.Services.{KnownBy}
use Rattle.response.specs.Settings.{Allowed, numbers_of, plain_numbers, with_base}
use Rattle.figure.specs.declared.request.Enablement.{Enablement}
use Rattle.docket.specs.Dockets.{count_after}
use Rattle.docket.specs.Calls.{Meaning, of_open, of_closed, put, load, amend, strike, close, deliver, reopen, counted}
use Rattle.calls.specs.Answers.{told}
use Rattle.calls.specs.Outcomes.{open_with}
use Rattle.script.specs.declared.command.Command.{Command}
use Rattle.script.specs.declared.command.Command.TheVariants as command
use Rattle.replay.specs.declared.reply.Reply.{Reply}
use Rattle.replay.specs.declared.reply.Reply.TheVariants.{Told, Done, NoCall}
use Rattle.replay.specs.declared.session.Session.{Session}
use Rattle.replay.specs.Replies.{refused, granted}
use Rattle.replay.specs.Plans.{blank_targets, empty_plan, asked_under}
use Rattle.replay.specs.Desks.{blank_table, Called}

-- ---- a new session
pub record Fresh (s : Session) : Type 0 where
  pub table : s.desk.table.items ≡ blank_table 4096
  pub docket : s.desk.state ≡ open_with 0
  pub settings : numbers_of s.settings ≡ plain_numbers
  pub trial : s.trial ≡ None
  pub plan : s.plan ≡ empty_plan

-- ---- what a line leaves as it is
pub record SameTerms (s t : Session) : Type 0 where
  pub settings : t.settings ≡ s.settings
  pub trial : t.trial ≡ s.trial
  pub plan : t.plan ≡ s.plan

pub record SamePlan (s t : Session) : Type 0 where
  pub desk : t.desk ≡ s.desk
  pub settings : t.settings ≡ s.settings
  pub trial : t.trial ≡ s.trial
  pub rule : t.plan.rule ≡ s.plan.rule

-- ---- settings and trials: granted within their limits, else refused, and then they stay
pub record Changes (s : Session) (p : Proposal) (reply : Reply) (t : Session) : Type 0 where
  pub outcome : Result (Unit {0}) Refusal
  pub within : Granted outcome (Allowed p) (λ _. numbers_of t.settings ≡ p)
  pub kept : OnErr outcome (t.settings ≡ s.settings)
  pub reply_is : reply ≡ granted outcome
  pub desk : t.desk ≡ s.desk
  pub trial : t.trial ≡ s.trial
  pub plan : t.plan ≡ s.plan

-- the window that is tried after a trial is asked for
abbrev pub tried_after : Result BaseWindow Refusal → Option BaseWindow → Option BaseWindow
tried_after outcome old = option_or (result_ok outcome) old

pub record Tries (s : Session) (begin end : ℕ) (reply : Reply) (t : Session) : Type 0 where
  pub outcome : Result BaseWindow Refusal
  pub within : Granted outcome (IsBase begin end) (λ w. (w.begin ≡ begin) × (w.end ≡ end))
  pub reply_is : reply ≡ granted outcome
  pub leaves : t ≡ record s { trial = tried_after outcome s.trial }

-- ---- targets: a call on their timeline, answered as one
abbrev pub OnTargets : ((r : Result ℕ Refusal) → List Target → Type 0) → Session → Reply → Session → Type 0
OnTargets edits s reply t = (o : Result ℕ Refusal) × edits o t.plan.targets × (t.plan.count ≡ count_after o s.plan.count) × (reply ≡ Told (told (counted o))) × SamePlan s t

-- ---- calls on the docket, which leave the terms of deliveries
pub record OnDocket (s : Session) (call : Meaning) (reply : Reply) (t : Session) : Type 0 where
  pub called : Called s.desk call reply t.desk
  pub terms : SameTerms s t

-- load of the members that the bytes make, which hexadecimal digits write; digits that write none are no call
abbrev pub digits_of : Option (Bor (List ℕ)) → List ℕ
digits_of None = []
digits_of (Some text) = text.now

pub record Loads (s : Session) (make : Make) (digits : List ℕ) (reply : Reply) (t : Session) : Type 0 where
  pub written : (bytes : List ℕ) (ms : List Member) → decode_of digits ≡ Ok bytes → Recorded make bytes ms → OnDocket s (of_open (load ms)) reply t
  pub other : ((bytes : List ℕ) → decode_of digits ≢ Ok bytes) → (reply ≡ NoCall) × (t ≡ s)

-- the settings of a delivery: with the window that is tried, if one is
abbrev pub settings_in : Settings → Option BaseWindow → Settings
settings_in settings None = settings
settings_in settings (Some w) = with_base settings w

abbrev pub DeliversFor : Session → Enablement → Reply → Session → Type 0
DeliversFor s enablement = OnDocket s (of_closed (deliver (asked_under (settings_in s.settings s.trial) s.plan enablement)))

-- deliver of the service with a code; a text that is no code is refused
abbrev pub DeliversBy : Session → ℤ → Result Service Refusal → Reply → Session → Type 0
DeliversBy s watts (Ok service) reply t = DeliversFor s (record { service = service; watts = watts }) reply t
DeliversBy s watts (Err f) reply t = (reply ≡ refused f) × (t ≡ s)

pub record Delivers (s : Session) (code : List ℕ) (watts : ℤ) (reply : Reply) (t : Session) : Type 0 where
  pub service : Result Service Refusal
  pub known : KnownBy code service
  pub by : DeliversBy s watts service reply t

-- ---- a line's command has this reply, and leaves this session
abbrev pub Acts : Session → Command → Reply → Session → Type 0
Acts s command.New reply t = (reply ≡ Done) × (t.desk.table ≡ s.desk.table) × (t.desk.state ≡ open_with 0) × SameTerms s t
Acts s (command.Places places) reply t = (reply ≡ Done) × (t.desk.table.items ≡ blank_table places) × (t.desk.state ≡ s.desk.state) × SameTerms s t
Acts s (command.Settings p) reply t = Changes s p reply t
Acts s (command.Trial begin end) reply t = Tries s begin end reply t
Acts s command.TrialEnd reply t = (reply ≡ Done) × (t ≡ record s { trial = None })
Acts s command.TargetTable reply t = (reply ≡ Done) × (t ≡ record s { plan = record (s.plan) { targets = blank_targets } })
Acts s (command.TargetPut x) reply t = OnTargets (Puts targets s.plan.count s.plan.targets x) s reply t
Acts s (command.TargetAmend i x) reply t = OnTargets (Amends targets s.plan.count s.plan.targets i x) s reply t
Acts s (command.TargetStrike i) reply t = OnTargets (Strikes targets s.plan.count s.plan.targets i) s reply t
Acts s (command.Rule choice) reply t = (reply ≡ Done) × (t ≡ record s { plan = record (s.plan) { rule = choice } })
Acts s (command.Put r) reply t = OnDocket s (of_open (put r)) reply t
Acts s (command.Amend i r) reply t = OnDocket s (of_open (amend i r)) reply t
Acts s (command.Load make digits) reply t = Loads s make (digits_of digits) reply t
Acts s (command.Strike i) reply t = OnDocket s (of_open (strike i)) reply t
Acts s command.Close reply t = OnDocket s (of_open close) reply t
Acts s (command.Deliver code enabled) reply t = Delivers s code.now enabled reply t
Acts s command.Reopen reply t = OnDocket s (of_closed reopen) reply t

-- ---- trials
-- a line that does not ask for other settings leaves them as they were: whichever window a delivery tries, and however the delivery ends, the former window is put back
abbrev pub PutsBack : Session → Command → Session → Type 0
PutsBack s (command.Settings p) t = Unit {0}
PutsBack s c t = t.settings ≡ s.settings
