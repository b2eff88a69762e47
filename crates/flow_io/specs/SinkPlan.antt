-- What a sink in memory is to do at its calls.
use Rattle.std.specs.Prelude.{ℕ, List}
use Rattle.flow_io.specs.declared.memory.MemSink.{MemSink}

-- the numbers of the calls that are to fail, from 0
abbrev pub failing_calls : MemSink → List ℕ
failing_calls s = s.calls.fails

-- the number of the call that comes next
abbrev pub next_call : MemSink → ℕ
next_call s = s.calls.next

-- how many bytes a call moves at most
abbrev pub most_moved : MemSink → ℕ
most_moved s = s.most
