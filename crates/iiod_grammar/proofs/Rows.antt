-- Worked streams, by computation.
use Rattle.std.proofs.Common.{◌≡◌, false, [], ◌∷◌, Some, None, Ok, Err, refl}
use Rattle.std.specs.Prelude.{codes}
use Rattle.iio_text.specs.declared.errors.Errno.TheVariants.{EFBIG}
use Rattle.iiod_grammar.specs.declared.command.Refused.TheVariants.{Empty, Unknown, Shape}
use Rattle.iiod_grammar.specs.Command.{AtInput, Version, Print, Timeout, Open, ReadBuf, Close}
use Rattle.iiod_grammar.specs.Stream.{Said, Written, Streamed, End, items_of}

usual_session : items_of (codes "VERSION\r\nZPRINT\r\nPRINT\r\nTIMEOUT 2500\r\nOPEN adc0 256 00000005\r\nREADBUF adc0 1024\r\nCLOSE adc0\r\nEXIT\r\nPRINT\n")
    ≡ Said (Ok Version) ∷ Said (Err Unknown) ∷ Said (Ok Print) ∷ Said (Ok (Timeout 2500)) ∷ Said (Ok (Open (codes "adc0") 256 (codes "00000005") false))
    ∷ Said (Ok (ReadBuf (codes "adc0") 1024)) ∷ Said (Ok (Close (codes "adc0"))) ∷ End None ∷ []
usual_session = refl

payloads : items_of (codes "WRITE d INPUT c a 5\n\r\n0\r\n\nWRITE d 65537\nPRINT\n")
    ≡ Written (codes "d") (Some (AtInput (codes "c"), Some (codes "a"))) (codes "\r\n0\r\n") ∷ Said (Err Empty) ∷ End (Some EFBIG) ∷ []
payloads = refl

buffers : items_of (codes "WRITEBUF d 4\nEX\r\nWRITEBUF d 0\nWRITEBUF d\nWRITEBUF d 65537\nPRINT\n")
    ≡ Streamed (codes "d") (codes "EX\r\n") ∷ Streamed (codes "d") [] ∷ Said (Err Shape) ∷ End (Some EFBIG) ∷ []
buffers = refl
