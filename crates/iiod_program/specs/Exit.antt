-- The exit codes of the process. (This project's own.)
use Rattle.std.specs.Prelude.{ℕ, Result, Ok, Err}
use Rattle.iio_base.specs.declared.Mem.{Mem}
use Rattle.iio_script.specs.Status.{code_of}
use Rattle.iio_script.specs.declared.status.Status.TheVariants.{Memory}
use Rattle.iiod_serve.specs.Served.{serve_code}
use Rattle.iiod_program.specs.declared.exit.End.{End}
use Rattle.iiod_program.specs.declared.exit.End.TheVariants.{Run, Serve}

-- the exit code, by how the command ended, or because memory ran out before it began
abbrev pub end_code : Result End Mem → ℕ
end_code (Ok (Run status)) = code_of status
end_code (Ok (Serve status)) = serve_code status
end_code (Err e) = code_of Memory
