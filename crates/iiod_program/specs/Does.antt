-- What the program does for a request, over an input of which the bytes left are visible and an output of which the written
-- bytes are; each has a count of faults. (This project's own.)
use Rattle.std.specs.Prelude.{◌≡◌, ℕ, ◌+◌, List, length, IfSome}
use Rattle.iio_io.specs.Bytes.{TakesAtMost}
use Rattle.iio_sensor.specs.Driver.{Driver}
use Rattle.iio_history.specs.Input.{input_limit}
use Rattle.iio_history.specs.Outcome.{outcome_of}
use Rattle.iio_script.specs.Ends.{HasStatus, Views, Writes}
use Rattle.iio_script.specs.LineReader.{TakesBlocks}
use Rattle.iio_script.specs.Plays.{TakesFor}
use Rattle.iio_script.specs.Taken.{WritesFirst, WritesLines}
use Rattle.iio_script.specs.declared.status.Status.{Status}
use Rattle.iio_script.specs.declared.status.Status.TheVariants.{ReadFault, Usage}
use Rattle.iio_worlds.specs.Solo.{AreAlike, IsRefusedBeside, solo_outcome_of}
use Rattle.iio_gen.specs.Summary.{EndsGen, summarized}
use Rattle.iiod_serve.specs.Usage.{IsUsage, PrintsUsage}
use Rattle.iiod_program.specs.Complete.{Completes}
use Rattle.iiod_program.specs.Layout.{TakesForLine, layout_of}
use Rattle.iiod_program.specs.Request.{Request, Play, Solo, Layout, Gen, Other}

-- an input and an output
pub record Streams (S K : Type 0) : Type 0 where
  pub source : S
  pub sink : K

abbrev pub streams_of : {S K : Type 0} → S → K → Streams S K
streams_of source sink = record { source = source; sink = sink }

module _ {S K : Type 0} (views : Views S K) where
  -- the transcript of the input, with these drivers
  pub record PlaysInput (drivers : List Driver) (end : Status) (a b : Streams S K) : Type 0 where
    pub transcript : IfSome (views.left a.source) (λ xs. IfSome (views.written a.sink) (λ ys. Writes (outcome_of drivers xs) ys end (views.written b.sink)))
    -- if neither count of faults rose, the whole text was written, unless memory ran out
    pub complete : views.reads a.source ≡ views.reads b.source → views.writes a.sink ≡ views.writes b.sink
        → IfSome (views.left a.source) (λ xs. IfSome (views.written a.sink) (λ ys. Completes (outcome_of drivers xs) ys end (views.written b.sink)))
    pub status : IfSome (views.left a.source) (λ xs. HasStatus (outcome_of drivers xs) end)
    pub words : end ≡ Usage → ⊥
    pub taken : IfSome (views.left a.source) (λ xs. TakesAtMost xs (input_limit + 1) (views.left b.source))
    -- if a line is refused, at most 65,536 bytes were taken after the byte at which it failed
    pub near : IfSome (views.left a.source) (λ xs. TakesFor end xs (views.left b.source))
    -- if a read failed, exactly what the whole lines before it print was written
    pub whole_lines : end ≡ ReadFault
        → IfSome (views.left a.source) (λ xs. IfSome (views.written a.sink) (λ ys. WritesLines drivers xs ys (views.left b.source) (views.written b.sink)))
    -- however it ends: before the last 65,536 bytes, at most, were
    -- taken, all that the whole lines before them print had been written
    pub answered : IfSome (views.left a.source)
        (λ xs. IfSome (views.written a.sink) (λ ys. WritesFirst drivers xs ys (views.left b.source) (views.written b.sink)))

  -- both worlds of a connection of the input, with these drivers
  pub record ShowsWorlds (drivers : List Driver) (name : List ℕ) (end : Status) (a b : Streams S K) : Type 0 where
    -- if no line of the input fails, and the others are bystanders: the same text twice, with a line between
    pub alike : IfSome (views.left a.source) (λ xs. AreAlike name drivers xs)
    -- if no line fails, and the others aren't bystanders: the line of the first step against the rules is refused
    pub beside : IfSome (views.left a.source) (λ xs. IsRefusedBeside name drivers xs)
    pub worlds : IfSome (views.left a.source)
        (λ xs. IfSome (views.written a.sink) (λ ys. Writes (solo_outcome_of name drivers xs) ys end (views.written b.sink)))
    pub complete : views.reads a.source ≡ views.reads b.source → views.writes a.sink ≡ views.writes b.sink
        → IfSome (views.left a.source) (λ xs. IfSome (views.written a.sink) (λ ys. Completes (solo_outcome_of name drivers xs) ys end (views.written b.sink)))
    pub status : IfSome (views.left a.source) (λ xs. HasStatus (solo_outcome_of name drivers xs) end)
    pub words : end ≡ Usage → ⊥
    pub taken : IfSome (views.left a.source) (λ xs. TakesAtMost xs (input_limit + 1) (views.left b.source))
    -- nothing is written before the input ends
    pub nothing : end ≡ ReadFault → views.written b.sink ≡ views.written a.sink

  -- the layout of a device of the input's description, which may use `drivers` drivers, under a mask
  pub record PrintsLayout (drivers : ℕ) (device mask : List ℕ) (end : Status) (a b : Streams S K) : Type 0 where
    pub lines : IfSome (views.left a.source)
        (λ xs. IfSome (views.written a.sink) (λ ys. Writes (layout_of drivers xs device mask) ys end (views.written b.sink)))
    pub complete : views.reads a.source ≡ views.reads b.source → views.writes a.sink ≡ views.writes b.sink
        → IfSome (views.left a.source) (λ xs. IfSome (views.written a.sink) (λ ys. Completes (layout_of drivers xs device mask) ys end (views.written b.sink)))
    pub status : IfSome (views.left a.source) (λ xs. HasStatus (layout_of drivers xs device mask) end)
    pub words : end ≡ Usage → ⊥
    pub taken : IfSome (views.left a.source) (λ xs. TakesBlocks xs (views.left b.source))
    -- if a line of the description is refused, at most 65,536 bytes were taken after the byte at which it failed
    pub near : IfSome (views.left a.source) (λ xs. TakesForLine end xs (views.left b.source))
    pub nothing : end ≡ ReadFault → b.sink ≡ a.sink

  -- the counts of the input that the number makes
  pub record Counts (n : ℕ) (end : Status) (a b : Streams S K) : Type 0 where
    pub lines : IfSome (views.written a.sink) (λ ys. Writes (summarized n) ys end (views.written b.sink))
    pub complete : views.writes a.sink ≡ views.writes b.sink → IfSome (views.written a.sink) (λ ys. Completes (summarized n) ys end (views.written b.sink))
    pub status : EndsGen end
    pub words : end ≡ Usage → ⊥
    pub unread : b.source ≡ a.source

  -- the line that names the commands
  pub record NamesCommands (end : Status) (a b : Streams S K) : Type 0 where
    pub status : IsUsage end
    pub line : IfSome (views.written a.sink) (λ ys. PrintsUsage ys end (views.written b.sink))
    pub unread : b.source ≡ a.source

  -- what each request asks for
  abbrev pub Does : List Driver → Request → Status → Streams S K → Streams S K → Type 0
  Does drivers Play end a b = PlaysInput drivers end a b
  Does drivers (Solo name) end a b = ShowsWorlds drivers name end a b
  Does drivers (Layout device mask) end a b = PrintsLayout (length drivers) device mask end a b
  Does drivers (Gen n) end a b = Counts n end a b
  Does drivers Other end a b = NamesCommands end a b
