-- What a frame gives, as code names it.
use Rattle.std.specs.Prelude.{◌≡◌, Option, option_map}
use Rattle.hm_message.specs.declared.message.Message.{Message}
use Rattle.hd_delivery.specs.declared.vocabulary.Got.{Got}
use Rattle.hd_delivery.specs.declared.vocabulary.Got.TheVariants as gives
use Rattle.hd_delivery.specs.declared.vocabulary.Side.{Side}
use Rattle.hd_delivery.specs.declared.vocabulary.Side.TheVariants.{Client, Server}
use Rattle.hd_delivery.specs.Frames.{LinkFrame, Request, Response, Numbered, Ack, Sequence, Ping, error_of}
use Rattle.hd_delivery.specs.Histories.{Config}
use Rattle.hd_trace.specs.declared.given.Given.{Given}
use Rattle.hd_trace.specs.declared.given.Given.TheVariants as given
use Rattle.hd_trace.specs.declared.owed.Owed.{Owed}
use Rattle.hd_trace.specs.declared.owed.Owed.TheVariants as owed
use Rattle.hd_trace.specs.ByMarks.{close_of}

-- the frame that an end which was begun so said, where this is the message in it
abbrev pub said_frame : Config → Message → Owed → LinkFrame
said_frame oc msg owed.Request = Request oc.codec oc.version
said_frame oc msg owed.Response = Response
said_frame oc msg (owed.Sequence first received) = Sequence first received
said_frame oc msg (owed.Ack upto) = Ack upto
said_frame oc msg owed.Message = Numbered msg
said_frame oc msg owed.Ping = Ping
said_frame oc msg (owed.Close farewell) = close_of farewell

-- the handshake that this side took of the other, by how both were begun
abbrev pub shaken_with : Side → Config → Config → Got
shaken_with Client c oc = gives.Shaken c.codec c.version
shaken_with Server c oc = gives.Shaken oc.codec oc.version

-- what it is of an end that was begun so, and the other so, where the frame carries this message
abbrev pub given_got : Config → Config → Message → Given → Got
given_got c oc msg given.Shaken = shaken_with c.side c oc
given_got c oc msg given.Message = gives.Message msg
given_got c oc msg (given.Acked upto) = gives.Acked upto
given_got c oc msg (given.Sequenced first) = gives.Sequenced first
given_got c oc msg (given.Resumed first received) = gives.Resumed first received
given_got c oc msg given.Ping = gives.Ping
given_got c oc msg (given.Skipped why) = gives.Skipped why
given_got c oc msg (given.Closed farewell) = gives.Closed (error_of farewell.reason) farewell.allow

-- what is given is this, and nothing where there is nothing
abbrev pub IsGiven : Config → Config → Message → Option Given → Option Got → Type 0
IsGiven c oc msg given got = got ≡ option_map (given_got c oc msg) given
