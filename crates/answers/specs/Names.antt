-- The answers of a connection by number, and the name of each.
use Rattle.std.specs.Prelude.{ℕ, cond, List, [], ◌∷◌, codes, ◌==◌}
use Prim.Native.String.{String}

-- each number that has a name, with its name
abbrev pub named : List (ℕ × String)
named =
    (1, "SettingTooLarge")
    ∷ (2, "RoomTooSmall")
    ∷ (3, "InitializationNotYetFinalized")
    ∷ (4, "VersionMismatch")
    ∷ (5, "InternalError")
    ∷ (6, "ConnectionMaybeCorrupted")
    ∷ (7, "AnotherInstanceIsAlreadyConnected")
    ∷ (8, "IsBeingCleanedUp")
    ∷ (9, "IncompatibleBufferSize")
    ∷ (10, "IncompatibleMaxBorrowedSamplesPerChannelSetting")
    ∷ (11, "IncompatibleOverflowSetting")
    ∷ (12, "IncompatibleNumberOfSamples")
    ∷ (13, "IncompatibleNumberOfSegments")
    ∷ (14, "IncompatibleNumberOfChannels")
    ∷ (15, "DoesNotExist")
    ∷ (20, "ReceiveBufferFull")
    ∷ (21, "BadSegment")
    ∷ (22, "ZeroSize")
    ∷ (23, "SizeChanged")
    ∷ (24, "Misaligned")
    ∷ (25, "IndexTooLarge")
    ∷ (26, "AlreadyUsed")
    ∷ (27, "ConnectionCorrupted")
    ∷ (28, "NoConnectedReceiverAndBufferIsFull")
    ∷ (29, "ChannelIsClosed")
    ∷ (30, "UnableToDeliver")
    ∷ (31, "WaitSpent")
    ∷ (32, "ReceiverReturnedCorruptedPointerOffset")
    ∷ (33, "ListTooShort")
    ∷ (40, "ReceiveWouldExceedMaxBorrowValue")
    ∷ (41, "RetrieveBufferFull")
    ∷ (42, "NothingBorrowed")
    ∷ (50, "Unsound")
    ∷ (51, "BadChannel")
    ∷ (52, "ValueOutOfBounds")
    ∷ []

-- the bytes of the name of a number by a table; a number that is not there has the empty name
abbrev pub name_in : List (ℕ × String) → ℕ → List ℕ
name_in [] n = []
name_in (row ∷ rows) n = cond (n == row.0) (codes row.1) (name_in rows n)

-- the bytes of the name of a number
unfoldable pub name_of : ℕ → List ℕ
name_of n = name_in named n
