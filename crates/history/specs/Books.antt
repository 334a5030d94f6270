-- The books of a channel: what the events alone say of its values.
use Rattle.std.specs.Prelude.{◌≡◌, ℕ, ◌+◌, Bool, true, false, cond, ◌&&◌, List, [], ◌∷◌, ◌++◌, ◌==◌}
use Rattle.shm_allocator.specs.Offsets.{segment_of}
use Rattle.zero_copy_connection.specs.Answers.{Answer, refused, nothing, value, flag, number}
use Rattle.blocking_send.specs.Waits.{Pending, goes, ends}
use Rattle.channel_laws.specs.Calls.{Call, sends, receives, releases, reclaims, asks_data, asks_count, channel_of}
use Rattle.history.specs.Events.{Event, made, stepped}

abbrev pub is_refused : Answer → Bool
is_refused (refused n) = true
is_refused nothing = false
is_refused (value v) = false
is_refused (flag b) = false
is_refused (number n) = false

abbrev pub is_nothing : Answer → Bool
is_nothing (refused n) = false
is_nothing nothing = true
is_nothing (value v) = false
is_nothing (flag b) = false
is_nothing (number n) = false

-- the value that is answered
abbrev pub value_in : Answer → List ℕ
value_in (refused n) = []
value_in nothing = []
value_in (value v) = v ∷ []
value_in (flag b) = []
value_in (number n) = []

-- a value that the call was given, unless it was refused
abbrev pub granted : Answer → ℕ → List ℕ
granted a v = cond (is_refused a) [] (v ∷ [])

-- what is said of a send, of a receive, of a release and of a reclaim, and otherwise
abbrev pub if_sends : {A : Type 0} → Call → (ℕ → ℕ → A) → A → A
if_sends (sends v size c) here otherwise = here v size
if_sends (receives c) here otherwise = otherwise
if_sends (releases v c) here otherwise = otherwise
if_sends (reclaims c) here otherwise = otherwise
if_sends (asks_data c) here otherwise = otherwise
if_sends (asks_count c) here otherwise = otherwise

abbrev pub if_receives : {A : Type 0} → Call → A → A → A
if_receives (sends v size c) here otherwise = otherwise
if_receives (receives c) here otherwise = here
if_receives (releases v c) here otherwise = otherwise
if_receives (reclaims c) here otherwise = otherwise
if_receives (asks_data c) here otherwise = otherwise
if_receives (asks_count c) here otherwise = otherwise

abbrev pub if_releases : {A : Type 0} → Call → (ℕ → A) → A → A
if_releases (sends v size c) here otherwise = otherwise
if_releases (receives c) here otherwise = otherwise
if_releases (releases v c) here otherwise = here v
if_releases (reclaims c) here otherwise = otherwise
if_releases (asks_data c) here otherwise = otherwise
if_releases (asks_count c) here otherwise = otherwise

abbrev pub if_reclaims : {A : Type 0} → Call → A → A → A
if_reclaims (sends v size c) here otherwise = otherwise
if_reclaims (receives c) here otherwise = otherwise
if_reclaims (releases v c) here otherwise = otherwise
if_reclaims (reclaims c) here otherwise = here
if_reclaims (asks_data c) here otherwise = otherwise
if_reclaims (asks_count c) here otherwise = otherwise

-- the value that an accepted send sends
abbrev pub sent_by : Call → Answer → List ℕ
sent_by x a = if_sends x (λ v size. granted a v) []

-- the value that a send evicts
abbrev pub evicted_by : Call → Answer → List ℕ
evicted_by x a = if_sends x (λ v size. value_in a) []

-- the value that a receive hands to the receiver
abbrev pub received_by : Call → Answer → List ℕ
received_by x a = if_receives x (value_in a) []

-- the value that an accepted release gives back
abbrev pub released_by : Call → Answer → List ℕ
released_by x a = if_releases x (λ v. granted a v) []

-- the value that a reclaim hands to the sender
abbrev pub reclaimed_by : Call → Answer → List ℕ
reclaimed_by x a = if_reclaims x (value_in a) []

-- the sample size of each segment: that of its first accepted send, and 0 before it
abbrev pub sized : (ℕ → ℕ) → ℕ → ℕ → ℕ → ℕ
sized size v n g = cond (g == segment_of v && size g == 0) n (size g)

abbrev pub sized_by : Call → Answer → (ℕ → ℕ) → ℕ → ℕ
sized_by x a size = if_sends x (λ v n. cond (is_refused a) size (sized size v n)) size

-- how many sends were accepted since a reclaim last answered nothing
abbrev pub since_by : Call → Answer → ℕ → ℕ
since_by x a m = if_sends x (λ v n. cond (is_refused a) m (m + 1)) (if_reclaims x (cond (is_nothing a) 0 m) m)

abbrev pub has : ℕ → List ℕ → Bool
has v [] = false
has v (x ∷ xs) = cond (v == x) true (has v xs)

-- a list without the first v
abbrev pub without : ℕ → List ℕ → List ℕ
without v [] = []
without v (x ∷ xs) = cond (v == x) xs (x ∷ without v xs)

-- a list without some values, and those of them that it does not have
abbrev pub minus : List ℕ → List ℕ → List ℕ
minus xs [] = xs
minus xs (v ∷ vs) = minus (without v xs) vs

abbrev pub lacks : List ℕ → List ℕ → List ℕ
lacks xs [] = []
lacks xs (v ∷ vs) = cond (has v xs) [] (v ∷ []) ++ lacks (without v xs) vs

pub record Books : Type 0 where
  -- accepted and neither received nor evicted
  pub waiting : List ℕ
  -- received and not released
  pub on_loan : List ℕ
  -- released and not reclaimed
  pub returned : List ℕ
  -- the values of all accepted sends
  pub accepted : List ℕ
  -- the values that were answered as evicted
  pub evicted : List ℕ
  -- the values that receives answered
  pub received : List ℕ
  -- what left `waiting`, evicted or received, in the order in which it left
  pub left : List ℕ
  -- values that were to leave a list and were not in it
  pub missing : List ℕ
  -- the sample size of each segment
  pub size : ℕ → ℕ
  -- accepted sends since a reclaim last answered nothing
  pub since : ℕ

-- the books before the first event
abbrev pub unused : Books
unused =
    record {
      waiting = [];
      on_loan = [];
      returned = [];
      accepted = [];
      evicted = [];
      received = [];
      left = [];
      missing = [];
      size = λ g. 0;
      since = 0;
    }

-- what leaves `waiting`
abbrev pub leaves_by : Call → Answer → List ℕ
leaves_by x a = evicted_by x a ++ received_by x a

-- the books after a call on the channel
abbrev pub booked_by : Call → Answer → Books → Books
booked_by x a b =
    record {
      waiting = minus b.waiting (leaves_by x a) ++ sent_by x a;
      on_loan = minus b.on_loan (released_by x a) ++ received_by x a;
      returned = minus b.returned (reclaimed_by x a) ++ released_by x a;
      accepted = b.accepted ++ sent_by x a;
      evicted = b.evicted ++ evicted_by x a;
      received = b.received ++ received_by x a;
      left = b.left ++ leaves_by x a;
      missing = b.missing ++ (lacks b.waiting (leaves_by x a) ++ (lacks b.on_loan (released_by x a) ++ lacks b.returned (reclaimed_by x a)));
      size = sized_by x a b.size;
      since = since_by x a b.since;
    }

-- the books of channel c after a call: one on another channel changes nothing
abbrev pub booked_on : ℕ → Call → Answer → Books → Books
booked_on c x a b = cond (channel_of x == c) (booked_by x a b) b

-- the send that a pending send is to make
abbrev pub send_of : Pending → Call
send_of w = sends w.value w.size w.channel

-- the books of channel c after an event: a step is booked as the send when it ends the pending send, and not before
abbrev pub booked : ℕ → Event → Books → Books
booked c (made x a) b = booked_on c x a b
booked c (stepped w action (goes next)) b = b
booked c (stepped w action (ends a)) b = booked_on c (send_of w) a b

abbrev pub follow : ℕ → Books → List Event → Books
follow c b [] = b
follow c b (e ∷ es) = follow c (booked c e b) es

-- the books of channel c after a history
abbrev pub books : ℕ → List Event → Books
books c es = follow c unused es

-- something holds of an event that is booked, if it is on channel c
abbrev pub IfOn : ℕ → Event → (Call → Answer → Type 0) → Type 0
IfOn c (made x a) P = channel_of x ≡ c → P x a
IfOn c (stepped w action (goes next)) P = Unit {0}
IfOn c (stepped w action (ends a)) P = channel_of (send_of w) ≡ c → P (send_of w) a

-- something holds of each event on channel c and the books before it
abbrev pub Along : (Books → Call → Answer → Type 0) → ℕ → Books → List Event → Type 0
Along P c b [] = Unit {0}
Along P c b (e ∷ es) = IfOn c e (P b) × Along P c (booked c e b) es
