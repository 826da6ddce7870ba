-- A line's command has one reply, and leaves one session, but for where its table is kept.
use Rattle.std.proofs.Common.{◌≡◌, ℕ, ℤ, List, Some, None, Ok, Err, Option, Result, sym, refl, ap, ◌∙◌, subst}
use Rattle.std.specs.Prelude.{OnErr}
use Rattle.hex.specs.Hex.{decode_of}
use Rattle.hex.specs.declared.error.FromHexError.{FromHexError}
use Rattle.recording.specs.declared.makes.Make.{Make}
use Rattle.recording.specs.declared.refusal.Refusal.{Refusal}
use Rattle.recording.specs.Makes.{members_of}
use Rattle.recording.proofs.Chunks.{members_recorded}
use Rattle.recording.specs.declared.sample.Sample.{Sample}
use Rattle.timeline.specs.declared.target.Target.{Target}
use Rattle.timeline.specs.Targets.{targets}
use Rattle.timeline.specs.Timelines.{Puts, Amends, Strikes}
use Rattle.response.specs.declared.base.BaseWindow.{BaseWindow}
use Rattle.response.specs.declared.service.Service.{Service}
use Rattle.response.specs.declared.settings.Proposal.{Proposal}
use Rattle.response.specs.declared.settings.Settings.{Settings}
use Rattle.response.specs.Limits.{IsBase, Granted}
use Rattle.response.specs.Services.{KnownBy}
use Rattle.response.specs.Settings.{Allowed, numbers_of}
use Rattle.response.proofs.Services.{apart as codes_apart}
use Rattle.response.proofs.Alike.{same_base, same_settings}
use Rattle.figure.specs.declared.request.Enablement.{Enablement}
use Rattle.docket.specs.Dockets.{count_after}
use Rattle.docket.specs.declared.docket.State.{State}
use Rattle.calls.specs.declared.turn.Turn.{Turn}
use Rattle.docket.specs.Calls.{Meaning, of_closed, deliver, counted}
use Rattle.calls.specs.Answers.{told}
use Rattle.calls.specs.Outcomes.{Does}
use Rattle.script.specs.declared.command.Choice.{Choice}
use Rattle.script.specs.declared.command.Command.{Command}
use Rattle.script.specs.declared.command.Command.TheVariants as command
use Rattle.replay.specs.declared.plan.Plan.{Plan}
use Rattle.replay.specs.declared.reply.Reply.{Reply}
use Rattle.replay.specs.declared.reply.Reply.TheVariants.{Told}
use Rattle.replay.specs.declared.session.Session.{Session}
use Rattle.replay.specs.Replies.{replied, granted}
use Rattle.replay.specs.Plans.{asked_under, blank_targets}
use Rattle.replay.specs.Sessions.{Acts, Changes, Tries, tried_after, OnTargets, OnDocket, Loads, digits_of, settings_in, DeliversBy, Delivers}
use Rattle.replay.proofs.OneOutcome.{outcome_once, does_once}

-- ---- sessions that are alike
pub record Alike (s t : Session) : Type 0 where
  pub table : s.desk.table.items ≡ t.desk.table.items
  pub state : s.desk.state ≡ t.desk.state
  pub settings : s.settings ≡ t.settings
  pub trial : s.trial ≡ t.trial
  pub plan : s.plan ≡ t.plan

pub alike_along : (s t u v : Session) → Alike s t → u ≡ s → v ≡ t → Alike u v
alike_along s t u v a e f = record {
  table = ap (λ x. x.desk.table.items) e ∙ a.table ∙ sym (ap (λ x. x.desk.table.items) f);
  state = ap (λ x. x.desk.state) e ∙ a.state ∙ sym (ap (λ x. x.desk.state) f);
  settings = ap (λ x. x.settings) e ∙ a.settings ∙ sym (ap (λ x. x.settings) f);
  trial = ap (λ x. x.trial) e ∙ a.trial ∙ sym (ap (λ x. x.trial) f);
  plan = ap (λ x. x.plan) e ∙ a.plan ∙ sym (ap (λ x. x.plan) f);
}

abbrev pub Once : (s t : Session) → (Reply → Session → Type 0) → (Reply → Session → Type 0) → Type 0
Once s t P Q = (r q : Reply) (u v : Session) → P r u → Q q v → (r ≡ q) × Alike u v

-- ---- calls on the docket
does_alike : (a b : State) (x y : List Sample) (c d : Meaning) → a ≡ b → x ≡ y → c ≡ d → (l : List Sample) (t : Turn) → Does a x c t l → Does b y d t l
does_alike a b x y c d e f g l t h = subst (λ z. Does b y z t l) g (subst (λ z. Does b z c t l) f (subst (λ z. Does z x c t l) e h))

on_docket_once : (s t : Session) → Alike s t → (c d : Meaning) → c ≡ d → Once s t (OnDocket s c) (OnDocket t d)
on_docket_once s t a c d e r q u v h k =
    let moved = does_alike s.desk.state t.desk.state s.desk.table.items t.desk.table.items c d a.state a.table e u.desk.table.items h.called.turn h.called.does in
    let one = does_once t.desk.state t.desk.table.items d h.called.turn k.called.turn u.desk.table.items v.desk.table.items moved k.called.does in (
      h.called.reply_is ∙ ap (λ x. replied x.answer) one.0 ∙ sym k.called.reply_is,
      record {
        table = one.1;
        state = h.called.state ∙ ap (λ x. x.state) one.0 ∙ sym k.called.state;
        settings = h.terms.settings ∙ a.settings ∙ sym k.terms.settings;
        trial = h.terms.trial ∙ a.trial ∙ sym k.terms.trial;
        plan = h.terms.plan ∙ a.plan ∙ sym k.terms.plan;
      },
    )

-- ---- settings and trials
granted_once : {X : Type 0} (o p : Result X Refusal) (W : Type 0) (P Q : X → Type 0) → Granted o W P → Granted p W Q → granted o ≡ granted p
granted_once (Ok x) (Ok y) W P Q h k = refl
granted_once (Ok x) (Err f) W P Q h k = absurd (k.0 h.0)
granted_once (Err f) (Ok y) W P Q h k = absurd (h.0 k.0)
granted_once {X} (Err f) (Err g) W P Q h k = ap (λ x. granted {X = X} (Err x)) (h.1 ∙ sym k.1)

settings_once : (o p : Result (Unit {0}) Refusal) (n : Proposal) (a b x y : Settings) → Granted o (Allowed n) (λ _. numbers_of a ≡ n) → Granted p (Allowed n) (λ _. numbers_of b ≡ n) → OnErr o (a ≡ x) → OnErr p (b ≡ y) → x ≡ y → a ≡ b
settings_once (Ok w) (Ok z) n a b x y h k i j e = same_settings a b (h.1 ∙ sym k.1)
settings_once (Ok w) (Err f) n a b x y h k i j e = absurd (k.0 h.0)
settings_once (Err f) (Ok z) n a b x y h k i j e = absurd (h.0 k.0)
settings_once (Err f) (Err g) n a b x y h k i j e = i ∙ e ∙ sym j

changes_once : (s t : Session) → Alike s t → (n : Proposal) → Once s t (Changes s n) (Changes t n)
changes_once s t a n r q u v h k = (
  h.reply_is ∙ granted_once h.outcome k.outcome _ _ _ h.within k.within ∙ sym k.reply_is,
  record {
    table = ap (λ x. x.table.items) h.desk ∙ a.table ∙ sym (ap (λ x. x.table.items) k.desk);
    state = ap (λ x. x.state) h.desk ∙ a.state ∙ sym (ap (λ x. x.state) k.desk);
    settings = settings_once h.outcome k.outcome n u.settings v.settings s.settings t.settings h.within k.within h.kept k.kept a.settings;
    trial = h.trial ∙ a.trial ∙ sym k.trial;
    plan = h.plan ∙ a.plan ∙ sym k.plan;
  },
)

tried_once : (o p : Result BaseWindow Refusal) (begin end : ℕ) (x y : Option BaseWindow) → Granted o (IsBase begin end) (λ w. (w.begin ≡ begin) × (w.end ≡ end)) → Granted p (IsBase begin end) (λ w. (w.begin ≡ begin) × (w.end ≡ end)) → x ≡ y → tried_after o x ≡ tried_after p y
tried_once (Ok w) (Ok z) b e x y h k same = ap Some (same_base w z (h.1.0 ∙ sym k.1.0) (h.1.1 ∙ sym k.1.1))
tried_once (Ok w) (Err f) b e x y h k same = absurd (k.0 h.0)
tried_once (Err f) (Ok z) b e x y h k same = absurd (h.0 k.0)
tried_once (Err f) (Err g) b e x y h k same = same

-- sessions with other windows
with_trial : (s t : Session) → Alike s t → (x y : Option BaseWindow) → x ≡ y → Alike (record s { trial = x }) (record t { trial = y })
with_trial s t a x y e = record { table = a.table; state = a.state; settings = a.settings; trial = e; plan = a.plan }

tries_once : (s t : Session) → Alike s t → (begin end : ℕ) → Once s t (Tries s begin end) (Tries t begin end)
tries_once s t a b e r q u v h k = (
  h.reply_is ∙ granted_once h.outcome k.outcome _ _ _ h.within k.within ∙ sym k.reply_is,
  alike_along _ _ u v (with_trial s t a _ _ (tried_once h.outcome k.outcome b e s.trial t.trial h.within k.within a.trial)) h.leaves k.leaves,
)

-- ---- plans
with_plan : (s t : Session) → Alike s t → (x y : Plan) → x ≡ y → Alike (record s { plan = x }) (record t { plan = y })
with_plan s t a x y e = record { table = a.table; state = a.state; settings = a.settings; trial = a.trial; plan = e }

same_plan : (p q : Plan) → p.targets ≡ q.targets → p.count ≡ q.count → p.rule ≡ q.rule → p ≡ q
same_plan p q a b c = ap (λ x. record { targets = x; count = p.count; rule = p.rule }) a ∙ ap (λ x. record { targets = q.targets; count = x; rule = p.rule }) b ∙ ap (λ x. record { targets = q.targets; count = q.count; rule = x }) c

retabled : (p q : Plan) → p ≡ q → record p { targets = blank_targets } ≡ record q { targets = blank_targets }
retabled p q e = ap {A = Plan} (λ x. record x { targets = blank_targets }) e

ruled : (p q : Plan) (choice : Choice) → p ≡ q → record p { rule = choice } ≡ record q { rule = choice }
ruled p q choice e = ap {A = Plan} (λ x. record x { rule = choice }) e

on_targets_once : (s t : Session) → Alike s t → (P Q : Result ℕ Refusal → List Target → Type 0) → ((o p : Result ℕ Refusal) (l m : List Target) → P o l → Q p m → (o ≡ p) × (l ≡ m)) → Once s t (OnTargets P s) (OnTargets Q t)
on_targets_once s t a P Q once r q u v (o, h, n, is, same) (p, k, m, is', same') =
    let one = once o p u.plan.targets v.plan.targets h k in
    let count : u.plan.count ≡ v.plan.count = n ∙ ap (λ x. count_after x s.plan.count) one.0 ∙ ap (λ x. count_after p x.count) a.plan ∙ sym m in (
      is ∙ ap (λ x. Told (told (counted x))) one.0 ∙ sym is',
      record {
        table = ap (λ x. x.table.items) same.desk ∙ a.table ∙ sym (ap (λ x. x.table.items) same'.desk);
        state = ap (λ x. x.state) same.desk ∙ a.state ∙ sym (ap (λ x. x.state) same'.desk);
        settings = same.settings ∙ a.settings ∙ sym same'.settings;
        trial = same.trial ∙ a.trial ∙ sym same'.trial;
        plan = same_plan u.plan v.plan one.1 count (same.rule ∙ ap (λ x. x.rule) a.plan ∙ sym same'.rule);
      },
    )

-- edits of the targets' timelines of two plans
edits_once : (E : Plan → Result ℕ Refusal → List Target → Type 0) → ((p : Plan) (o q : Result ℕ Refusal) (l m : List Target) → E p o l → E p q m → (o ≡ q) × (l ≡ m)) → (x y : Plan) → x ≡ y → (o q : Result ℕ Refusal) (l m : List Target) → E x o l → E y q m → (o ≡ q) × (l ≡ m)
edits_once E once x y e o q l m h k = once y o q l m (subst (λ z. E z o l) e h) k

-- ---- loads and deliveries
loads_once : (s t : Session) → Alike s t → (make : Make) (digits : List ℕ) → Once s t (Loads s make digits) (Loads t make digits)
loads_once s t a make digits r q u v h k = by (decode_of digits) refl
  where
    by : (o : Result (List ℕ) FromHexError) → decode_of digits ≡ o → (r ≡ q) × Alike u v
    by (Ok bytes) e = on_docket_once s t a _ _ refl r q u v (h.written bytes (members_of make bytes) e (members_recorded make bytes)) (k.written bytes (members_of make bytes) e (members_recorded make bytes))
    by (Err f) e =
        let none : (bytes : List ℕ) → decode_of digits ≡ Ok bytes → ⊥ = λ bytes is. (let g : ◌≡◌ {A = Result (List ℕ) FromHexError} (Ok bytes) (Err f) = sym is ∙ e in absurd (cc)) in
        let x = h.other none in
        let y = k.other none in
        (x.0 ∙ sym y.0, alike_along s t u v a x.1 y.1)

same_asked : (s t : Session) → Alike s t → (e : Enablement)
    → of_closed (deliver (asked_under (settings_in s.settings s.trial) s.plan e)) ≡ of_closed (deliver (asked_under (settings_in t.settings t.trial) t.plan e))
same_asked s t a e =
    ap (λ x. of_closed (deliver (asked_under (settings_in x s.trial) s.plan e))) a.settings
    ∙ ap (λ x. of_closed (deliver (asked_under (settings_in t.settings x) s.plan e))) a.trial
    ∙ ap (λ x. of_closed (deliver (asked_under (settings_in t.settings t.trial) x e))) a.plan

service_once : (code : List ℕ) (o p : Result Service Refusal) → KnownBy code o → KnownBy code p → o ≡ p
service_once code (Ok x) (Ok y) h k = ap Ok (codes_apart x y (sym h ∙ k))
service_once code (Ok x) (Err g) h k = absurd (k.0 x h)
service_once code (Err f) (Ok y) h k = absurd (h.0 y k)
service_once code (Err f) (Err g) h k = ap Err (h.1 ∙ sym k.1)

delivers_by_once : (s t : Session) → Alike s t → (n : ℤ) (o : Result Service Refusal) → Once s t (DeliversBy s n o) (DeliversBy t n o)
delivers_by_once s t a n (Ok service) r q u v h k = on_docket_once s t a _ _ (same_asked s t a (record { service = service; watts = n })) r q u v h k
delivers_by_once s t a n (Err f) r q u v h k = (h.0 ∙ sym k.0, alike_along s t u v a h.1 k.1)

delivers_once : (s t : Session) → Alike s t → (code : List ℕ) (n : ℤ) → Once s t (Delivers s code n) (Delivers t code n)
delivers_once s t a code n r q u v h k =
    delivers_by_once s t a n k.service r q u v (subst (λ o. DeliversBy s n o r u) (service_once code h.service k.service h.known k.known) h.by) k.by

-- ---- any command
pub acts_once : (s t : Session) → Alike s t → (c : Command) → Once s t (Acts s c) (Acts t c)
acts_once s t a command.New r q u v (h, x, y, z) (k, x', y', z') = (h ∙ sym k, record { table = ap (λ w. w.items) x ∙ a.table ∙ sym (ap (λ w. w.items) x'); state = y ∙ sym y'; settings = z.settings ∙ a.settings ∙ sym z'.settings; trial = z.trial ∙ a.trial ∙ sym z'.trial; plan = z.plan ∙ a.plan ∙ sym z'.plan })
acts_once s t a (command.Places n) r q u v (h, x, y, z) (k, x', y', z') = (h ∙ sym k, record { table = x ∙ sym x'; state = y ∙ a.state ∙ sym y'; settings = z.settings ∙ a.settings ∙ sym z'.settings; trial = z.trial ∙ a.trial ∙ sym z'.trial; plan = z.plan ∙ a.plan ∙ sym z'.plan })
acts_once s t a (command.Settings p) r q u v h k = changes_once s t a p r q u v h k
acts_once s t a (command.Trial b e) r q u v h k = tries_once s t a b e r q u v h k
acts_once s t a command.TrialEnd r q u v (h, x) (k, y) = (h ∙ sym k, alike_along _ _ u v (with_trial s t a None None refl) x y)
acts_once s t a command.TargetTable r q u v (h, x) (k, y) = (h ∙ sym k, alike_along _ _ u v (with_plan s t a _ _ (retabled s.plan t.plan a.plan)) x y)
acts_once s t a (command.TargetPut x) r q u v h k = on_targets_once s t a _ _ (edits_once (λ p. Puts targets p.count p.targets x) (λ p o q l m e f. outcome_once o q l m e.outcome f.outcome) s.plan t.plan a.plan) r q u v h k
acts_once s t a (command.TargetAmend i x) r q u v h k = on_targets_once s t a _ _ (edits_once (λ p. Amends targets p.count p.targets i x) (λ p o q l m e f. outcome_once o q l m e.outcome f.outcome) s.plan t.plan a.plan) r q u v h k
acts_once s t a (command.TargetStrike i) r q u v h k = on_targets_once s t a _ _ (edits_once (λ p. Strikes targets p.count p.targets i) (λ p o q l m e f. outcome_once o q l m e.outcome f.outcome) s.plan t.plan a.plan) r q u v h k
acts_once s t a (command.Rule choice) r q u v (h, x) (k, y) = (h ∙ sym k, alike_along _ _ u v (with_plan s t a _ _ (ruled s.plan t.plan choice a.plan)) x y)
acts_once s t a (command.Put x) r q u v h k = on_docket_once s t a _ _ refl r q u v h k
acts_once s t a (command.Amend i x) r q u v h k = on_docket_once s t a _ _ refl r q u v h k
acts_once s t a (command.Load make digits) r q u v h k = loads_once s t a make (digits_of digits) r q u v h k
acts_once s t a (command.Strike i) r q u v h k = on_docket_once s t a _ _ refl r q u v h k
acts_once s t a command.Close r q u v h k = on_docket_once s t a _ _ refl r q u v h k
acts_once s t a (command.Deliver code n) r q u v h k = delivers_once s t a code.now n r q u v h k
acts_once s t a command.Reopen r q u v h k = on_docket_once s t a _ _ refl r q u v h k
