-- The numbers of what creation, closing and channel states answer.
use Rattle.std.specs.Prelude.{ℕ, Some, None, Ok, Err, Option, Result}
use Rattle.connection_ports.specs.declared.error.DynamicStorageOpenError.{DynamicStorageOpenError}
use Rattle.connection_ports.specs.declared.error.DynamicStorageOpenError.TheVariants as fault
use Rattle.connection_ports.specs.declared.error.ZeroCopyCreationError.{ZeroCopyCreationError}
use Rattle.connection_ports.specs.declared.error.ZeroCopyCreationError.TheVariants as creation
use Rattle.connection_ports.specs.declared.error.PortCloseError.{PortCloseError}
use Rattle.connection_ports.specs.declared.error.PortCloseError.TheVariants as closing
use Rattle.connection_ports.specs.declared.error.ChannelStateNewError.{ChannelStateNewError}
use Rattle.connection_ports.specs.declared.error.ChannelStateNewError.TheVariants as newState
use Rattle.connection_ports.specs.declared.port.Port.{Port}
use Rattle.connection_ports.specs.declared.port.Port.TheVariants as port

abbrev pub creation_number : ZeroCopyCreationError → ℕ
creation_number creation.SettingTooLarge = 1
creation_number creation.RoomTooSmall = 2
creation_number (creation.InitializationNotYetFinalized f) = 3
creation_number (creation.VersionMismatch f) = 4
creation_number (creation.InternalError f) = 5
creation_number creation.ConnectionMaybeCorrupted = 6
creation_number creation.AnotherInstanceIsAlreadyConnected = 7
creation_number creation.IsBeingCleanedUp = 8
creation_number creation.IncompatibleBufferSize = 9
creation_number creation.IncompatibleMaxBorrowedSamplesPerChannelSetting = 10
creation_number creation.IncompatibleOverflowSetting = 11
creation_number creation.IncompatibleNumberOfSamples = 12
creation_number creation.IncompatibleNumberOfSegments = 13
creation_number creation.IncompatibleNumberOfChannels = 14

-- the fault of the storage that a refusal carries, if it carries one
abbrev pub fault_in : ZeroCopyCreationError → Option DynamicStorageOpenError
fault_in creation.SettingTooLarge = None
fault_in creation.RoomTooSmall = None
fault_in (creation.InitializationNotYetFinalized f) = Some f
fault_in (creation.VersionMismatch f) = Some f
fault_in (creation.InternalError f) = Some f
fault_in creation.ConnectionMaybeCorrupted = None
fault_in creation.AnotherInstanceIsAlreadyConnected = None
fault_in creation.IsBeingCleanedUp = None
fault_in creation.IncompatibleBufferSize = None
fault_in creation.IncompatibleMaxBorrowedSamplesPerChannelSetting = None
fault_in creation.IncompatibleOverflowSetting = None
fault_in creation.IncompatibleNumberOfSamples = None
fault_in creation.IncompatibleNumberOfSegments = None
fault_in creation.IncompatibleNumberOfChannels = None

-- a fault of the storage as a refusal of a creation
abbrev pub as_creation : DynamicStorageOpenError → ZeroCopyCreationError
as_creation fault.DoesNotExist = creation.InternalError fault.DoesNotExist
as_creation fault.InitializationNotYetFinalized = creation.InitializationNotYetFinalized fault.InitializationNotYetFinalized
as_creation fault.VersionMismatch = creation.VersionMismatch fault.VersionMismatch
as_creation fault.InternalError = creation.InternalError fault.InternalError

abbrev pub close_number : PortCloseError → ℕ
close_number closing.Unsound = 50

abbrev pub state_number : ChannelStateNewError → ℕ
state_number newState.ValueOutOfBounds = 52

-- the number of the refusal, if a call was refused
abbrev pub refused_by : {A : Type 0} {E : Type 0} → (E → ℕ) → Result A E → Option ℕ
refused_by number (Ok a) = None
refused_by number (Err e) = Some (number e)

-- the fault of the storage that comes with a refusal
abbrev pub fault_of : {A : Type 0} → Result A ZeroCopyCreationError → Option DynamicStorageOpenError
fault_of (Ok a) = None
fault_of (Err e) = fault_in e

-- the bit of a port in the port state
abbrev pub bit_of : Port → ℕ
bit_of port.Sender = 1
bit_of port.Receiver = 2
