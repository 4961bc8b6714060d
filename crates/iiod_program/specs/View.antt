-- A request of the code as the definitions have it: each slice by its bytes.
use Rattle.iiod_program.specs.declared.request.Request.{Request as CodeRequest}
use Rattle.iiod_program.specs.declared.request.Request.TheVariants as code
use Rattle.iiod_program.specs.Request.{Request, Play, Solo, Layout, Gen, Other}

abbrev pub request_view : CodeRequest → Request
request_view code.Play = Play
request_view (code.Solo name) = Solo name.now
request_view (code.Layout device mask) = Layout device.now mask.now
request_view (code.Gen n) = Gen n
request_view code.Other = Other
