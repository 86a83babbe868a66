mod CountLaws
