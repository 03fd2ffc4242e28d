use Rattle.board_times.proofs.listing.add_words.Goals as goal

pub returns-in-Begins : goal.returns-in-Begins
returns-in-Begins c = rw c.in-Begins.is c.add_with_decimal.ensures

pub returns-in-IsAway : goal.returns-in-IsAway
returns-in-IsAway c = rw c.in-IsAway.is c.add_with_clock.ensures

pub returns-in-Opens : goal.returns-in-Opens
returns-in-Opens c = rw c.in-Opens.is c.add_text.ensures

pub returns-in-Answers : goal.returns-in-Answers
returns-in-Answers c = rw c.in-Answers.is c.add_text-in-Answers.ensures

pub returns-in-Goes : goal.returns-in-Goes
returns-in-Goes c = rw c.in-Goes.is c.add_text-in-Goes.ensures

pub returns-in-Calls : goal.returns-in-Calls
returns-in-Calls c = rw c.in-Calls.is c.add_text-in-Calls.ensures

pub returns-in-Hears : goal.returns-in-Hears
returns-in-Hears c = rw c.in-Hears.is c.add_with_bytes.ensures

pub returns-in-Adds : goal.returns-in-Adds
returns-in-Adds c = rw c.in-Adds.is c.add_with_bytes-in-Adds.ensures

pub returns-in-Brings : goal.returns-in-Brings
returns-in-Brings c = rw c.in-Brings.is c.add_with_bytes-in-Brings.ensures

pub returns-in-Stops : goal.returns-in-Stops
returns-in-Stops c = rw c.in-Stops.is c.add_with_clock-in-Stops.ensures

pub returns-in-Asks : goal.returns-in-Asks
returns-in-Asks c = rw c.in-Asks.is c.add_with_decimal-in-Asks.ensures

pub returns-in-Takes : goal.returns-in-Takes
returns-in-Takes c = rw c.in-Takes.is c.add_text-in-Takes.ensures

pub returns-in-Ends : goal.returns-in-Ends
returns-in-Ends c = rw c.in-Ends.is c.add_with_decimal-in-Ends.ensures

pub returns-in-Looks : goal.returns-in-Looks
returns-in-Looks c = rw c.in-Looks.is c.add_text-in-Looks.ensures

pub returns-in-PutsBack : goal.returns-in-PutsBack
returns-in-PutsBack c = rw c.in-PutsBack.is c.add_text-in-PutsBack.ensures

pub returns-in-Reopens : goal.returns-in-Reopens
returns-in-Reopens c = rw c.in-Reopens.is c.add_text-in-Reopens.ensures

pub returns-in-Suspects : goal.returns-in-Suspects
returns-in-Suspects c = rw c.in-Suspects.is c.add_with_decimal-in-Suspects.ensures
