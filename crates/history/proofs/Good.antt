-- The invariant of a channel: its words and its counter say what its books say.
use Rattle.std.proofs.Common.{◌≡◌, ℕ, ◌<◌, ◌≤◌, true, ◌≢◌, List, length, get_or, sym, ap, ◌∙◌}
use Rattle.dynamic_storage.specs.declared.condition.Condition.{Condition}
use Rattle.connection_words.specs.declared.settings.Settings.{Settings}
use Rattle.connection_words.specs.Settings.{Limits, channels}
use Rattle.connection_words.specs.Soundness.{settings_of, sound}
use Rattle.zero_copy_connection.specs.Answers.{Answer}
use Rattle.channel_laws.specs.Calls.{State, state_of, Call, channel_of, after}
use Rattle.channel_laws.specs.Regions.{Only}
use Rattle.channel_laws.proofs.Regions.{only_header, only_other}
use Rattle.channel_laws.proofs.Views.{View, view_same}
use Rattle.channel_laws.proofs.Sounds.{settings_same, sound_same, sound_limits}
use Rattle.channel_laws.proofs.Frames.{Framed, unchanged, within, framed, others_stay}
use Rattle.history.specs.Books.{Books, booked_by}
use Rattle.history.specs.Guarantee.{EvictsOldest, Unrefused, Uncorrupted}
use Rattle.history.proofs.Ledger.{Ledger, total}

pub record Good (s : Settings) (c : ℕ) (t : State) (b : Books) : Type 0 where
  pub is : settings_of t.words ≡ s
  pub stands : sound t.condition t.words ≡ true
  pub many : length t.counts ≡ 64
  -- the mark of a chunk is how often it is held
  pub view : View s c t.words b.waiting b.returned b.size (total b)
  pub counter : get_or t.counts c 0 ≡ length b.on_loan
  pub ledger : Ledger s b

-- what a call on the channel keeps and shows
pub record Step (s : Settings) (c : ℕ) (b : Books) (x : Call) (a : Answer) (z : State) : Type 0 where
  pub good : Good s c z (booked_by x a b)
  pub oldest : EvictsOldest b x a
  pub unrefused : b.since ≤ 1 → Unrefused b x a
  pub clean : Uncorrupted b x a

abbrev pub st : State → Settings
st t = settings_of t.words

-- a call on the channel itself
pub own : (s : Settings) (c : ℕ) (t : State) (b after : Books) (now ns : List ℕ) → c < channels s → Good s c t b → Only s c t.words now → length ns ≡ 64 → get_or ns c 0 ≡ length after.on_loan → View s c now after.waiting after.returned after.size (total after) → Ledger s after → Good s c (state_of t.condition now ns) after
own s c t b after now ns l g o m n v k =
    let header = only_header s c t.words now l o in
    record {
      is = settings_same t.words now header ∙ g.is;
      stands = sound_same t.condition t.words now o.long header ∙ g.stands;
      many = m;
      view = v;
      counter = n;
      ledger = k;
    }

-- a call on another channel
pub frame : (t : State) (b : Books) (c : ℕ) (x : Call) → c < channels (st t) → channel_of x ≢ c → Good (st t) c t b → Good (st t) c (after t x) b
frame t b c x l ne g =
    let law = others_stay t x in
    let other : c ≢ channel_of x = λ e. ne (sym e) in
    let limits = sound_limits t.condition t.words g.stands in
    record {
      is = settings_same t.words (after t x).words law.header;
      stands = ap (λ (k : Condition). sound k (after t x).words) law.condition ∙ (sound_same t.condition t.words (after t x).words law.words_long law.header ∙ g.stands);
      many = law.counts_long ∙ g.many;
      view = elsewhere t b c x l other limits g (framed t x);
      counter = law.counters c other ∙ g.counter;
      ledger = g.ledger;
    } where
      elsewhere : (t : State) (b : Books) (c : ℕ) (x : Call) → c < channels (st t) → c ≢ channel_of x → Limits (st t) → Good (st t) c t b → Framed t.words (channel_of x) (after t x).words → View (st t) c (after t x).words b.waiting b.returned b.size (total b)
      elsewhere t b c x l ne lim g (unchanged e) = rw e g.view
      elsewhere t b c x l ne lim g (within _ k o) =
          view_same (st t) c lim l t.words (after t x).words b.waiting b.returned b.size (total b) (only_other (st t) c (channel_of x) t.words (after t x).words ne l k o) g.view
