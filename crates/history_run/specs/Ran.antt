-- What a whole history of calls is known to be.
use Rattle.std.specs.Prelude.{◌≡◌, ℕ, ◌<◌, ◌≢◌, List, [], ◌++◌, replicate, Some, None, Option}
use Rattle.dynamic_storage.specs.declared.condition.Condition.{Condition}
use Rattle.dynamic_storage.specs.declared.condition.Condition.TheVariants.{Absent}
use Rattle.connection_words.specs.declared.settings.Settings.{Settings}
use Rattle.connection_words.specs.Settings.{channels, raised}
use Rattle.connection_ports.specs.declared.port.Port.{Port}
use Rattle.connection_ports.specs.Numbers.{creation_number}
use Rattle.connection_ports.specs.Creation.{creation_refusal}
use Rattle.connection_ports.specs.Laws.{other}
use Rattle.channel_laws.specs.Calls.{State, state_of}
use Rattle.channel_laws.specs.Readings.{settings}
use Rattle.history.specs.Events.{Event, Runs}
use Rattle.history.specs.Books.{unused, Along}
use Rattle.history.specs.Guarantee.{Fresh, created, Accepts, NamesLoan, Kept}
use Rattle.history_run.specs.declared.call.Call.{Call}
use Rattle.history_run.specs.declared.answer.Answer.{Answer}
use Rattle.history_run.specs.declared.run.RunError.{RunError}
use Rattle.history_run.specs.declared.run.RunError.TheVariants as run
use Rattle.history_run.specs.Course.{end_of, answers_of}
use Rattle.history_run.specs.Made.{Acts, Held, held, next, told, events}

-- a port, and then the other, created over a storage
abbrev pub opened : Port → Settings → ℕ → Condition → List ℕ → State
opened first s state condition words = created (other first) s state (created first s state (state_of condition words []))

-- both ports were created over an absent storage
pub record Opened (first : Port) (s : Settings) (state : ℕ) (condition : Condition) (words : List ℕ) : Type 0 where
  pub absent : condition ≡ Absent
  pub first_accepted : Accepts first s (state_of condition words [])
  pub other_accepted : Accepts (other first) s (created first s state (state_of condition words []))
  pub fresh : Fresh (opened first s state condition words)
  pub asked : settings (opened first s state condition words) ≡ raised s

-- where the ports were created if the first was not refused, this is the state that is left
abbrev pub OpenedTo : Option ℕ → Port → Settings → ℕ → Condition → List ℕ → Condition → List ℕ → Type 0
OpenedTo None first s state condition words last left =
    Opened first s state condition words × (state_of last left (replicate 64 0) ≡ opened first s state condition words)
OpenedTo (Some n) first s state condition words last left = (last ≡ condition) × (left ≡ words)

-- what the calls begin with: both ports were just created, and no send is pending
abbrev pub start : Port → Settings → ℕ → Condition → List ℕ → Held
start first s state condition words = held (opened first s state condition words) (replicate 64 None)

-- both ports were created, the calls made in order led to the end with these answers, and after every prefix of their
-- events each channel whose releases name values on loan is as the guarantee says
pub record Ran {P : Type 0} (acts : Acts P) (first : Port) (s : Settings) (state : ℕ) (condition : Condition) (words : List ℕ) (xs : List (Call P)) (answers : List Answer) (end : Held) : Type 0 where
  pub created : Opened first s state condition words
  pub runs : Runs (opened first s state condition words) (events acts (start first s state condition words) xs) end.connection
  pub ends : end ≡ end_of (next acts) (start first s state condition words) xs
  pub answered : answers ≡ answers_of (next acts) (told acts) (start first s state condition words) xs
  pub guaranteed : (es fs : List Event) → es ++ fs ≡ events acts (start first s state condition words) xs
      → (c : ℕ) → c < channels (raised s) → Along NamesLoan c unused es
      → (y : State) × Runs (opened first s state condition words) es y × Runs y fs end.connection × Kept (raised s) c es y

-- why no history was made
abbrev pub Unmade : RunError → Port → Settings → Condition → List ℕ → Type 0
Unmade run.OutOfMemory first s condition words = Unit {0}
Unmade run.NotAbsent first s condition words = condition ≢ Absent
Unmade (run.Creation e) first s condition words = creation_refusal first (raised s) condition words ≡ Some (creation_number e)
