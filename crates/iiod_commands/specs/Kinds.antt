-- The kind of a device as the code has it. Cited only by private functions.
use Rattle.iio_desc.specs.Kind as kind
use Rattle.iiod_commands.specs.declared.kinds.Kind.{Kind}
use Rattle.iiod_commands.specs.declared.kinds.Kind.TheVariants.{Input, Output, Average}

abbrev pub kind_code : kind.Kind → Kind
kind_code kind.Input = Input
kind_code kind.Output = Output
kind_code (kind.Average base window) = Average
