-- The numbers of a replay's statuses, and the statuses of its faults.
use Rattle.std.specs.Prelude.{ℕ}
use Rattle.gd_names.specs.declared.sink.SinkFault.{SinkFault}
use Rattle.gd_names.specs.declared.sink.SinkFault.TheVariants as sink
use Rattle.od_cli.specs.declared.read.ReadEnd.{ReadEnd}
use Rattle.od_cli.specs.declared.read.ReadEnd.TheVariants as read
use Rattle.od_cli.specs.declared.status.ReplayStatus.{ReplayStatus}
use Rattle.od_cli.specs.declared.status.ReplayStatus.TheVariants as status

abbrev pub status_number : ReplayStatus → ℕ
status_number status.Replayed = 0
status_number status.Usage = 2
status_number (status.BadLine number) = 3
status_number status.TooLong = 4
status_number status.ReadFault = 5
status_number status.WriteFault = 8
status_number status.Memory = 10

abbrev pub status_of_read : ReadEnd → ReplayStatus
status_of_read read.TooLong = status.TooLong
status_of_read read.Fault = status.ReadFault
status_of_read read.Memory = status.Memory

abbrev pub status_of_write : SinkFault → ReplayStatus
status_of_write sink.Failed = status.WriteFault
status_of_write sink.Memory = status.Memory
