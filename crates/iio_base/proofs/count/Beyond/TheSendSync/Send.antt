-- A count without bytes names no thread, so it may go to another.
use denote.Param.Send.{IsSend}
use Rattle.iio_base.specs.contracts.count.Beyond.{the_row}

pub send : IsSend the_row
send = record { owned = λ d vs. ((λ vss. (tt, ((λ uss. (tt, tt)), tt))), tt); leaving = λ k f vs. tt }
