-- Results and refusals inside the call.
use Rattle.std.specs.Prelude.{◌≡◌, ℕ, ◌+◌, List, length, Option}
use Rattle.flow_io.specs.Bytes.{TakesOff}
use Rattle.sisal_top.specs.Outputs.{HasTypeFault}
use Rattle.sisal_top.specs.Program.{most_bytes, IsRefused}
use Rattle.sisal_top.specs.declared.status.Status.{Status}
use Rattle.sisal_top.specs.declared.status.Status.TheVariants as status

-- one byte more was taken than a text may have
abbrev pub IsOverrun : Option (List ℕ) → Option (List ℕ) → Type 0
IsOverrun before after = (bytes : List ℕ) × (length bytes ≡ most_bytes + 1) × TakesOff before bytes after

-- want of memory, or a fault of the bytes
abbrev pub IsCause : List ℕ → Status → Type 0
IsCause bytes status.NoMemory = Unit {0}
IsCause bytes (status.Syntax f) = IsRefused bytes f
IsCause bytes _ = ⊥

-- want of memory, a fault of the bytes, or a type fault
abbrev pub IsNoProgram : List ℕ → Status → Type 0
IsNoProgram bytes (status.Typing rule line) = HasTypeFault bytes rule line
IsNoProgram bytes s = IsCause bytes s

-- the refusals after which the text may not be read to its end
abbrev pub IsUnread : Status → Type 0
IsUnread status.ReadFault = Unit {0}
IsUnread status.NoMemory = Unit {0}
IsUnread status.TooLong = Unit {0}
IsUnread _ = ⊥

-- the refusals before which nothing was written
abbrev pub IsEarly : Status → Type 0
IsEarly status.Done = ⊥
IsEarly status.WriteFault = ⊥
IsEarly _ = Unit {0}

-- the refusals that a command gives
abbrev pub IsReply : Status → Type 0
IsReply status.Done = ⊥
IsReply (status.Usage f) = ⊥
IsReply status.WriteFault = ⊥
IsReply _ = Unit {0}

-- the refusals that come of bytes, and not of the words, the source or the sink
abbrev pub IsOfBytes : Status → Type 0
IsOfBytes status.ReadFault = ⊥
IsOfBytes status.TooLong = ⊥
IsOfBytes s = IsReply s
