mod RoomLaws
mod LineLaws
mod FittingLaws
mod FillLaws
mod FilledLaws
